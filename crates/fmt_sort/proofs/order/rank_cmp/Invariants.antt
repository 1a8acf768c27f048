use Rattle.std.proofs.Common.{◌≡◌}
use Rattle.fmt_sort.specs.Order.{rank_in, compared}
use Rattle.fmt_sort.specs.Rank as rank
use Rattle.fmt_sort.specs.Spec.{wanted_of, wish_of}
use Rattle.fmt_sort.proofs.OrderLemmas.{from}
use Rattle.fmt_sort.proofs.order.rank_cmp.Given as goal

-- the fields so far do not tell the formats apart
abbrev pub invariant-loop-field : goal.invariant-loop-field
invariant-loop-field l =
    compared (wish_of l.spec) l.a l.b ≡ from rank.rank_cmp wanted_of (rank_in l.spec.free l.a) (rank_in l.spec.free l.b) l.spec.fields.items l.field-index
