use Rattle.fmt_sort.specs.Ranked.{AreRanked}
use Rattle.fmt_sort.specs.Spec.{wish_of}
use Rattle.fmt_sort.proofs.order.with_ranks.Given as goal

-- the formats so far
abbrev pub invariant-loop-place : goal.invariant-loop-place
invariant-loop-place l = AreRanked (wish_of l.spec) l.formats l.place l.ranked.items
