use Rattle.std.proofs.Common.{◌≡◌, map, take}
use Rattle.fmt_sort.specs.Order.{rank_in}
use Rattle.fmt_sort.specs.Spec.{wanted_of}
use Rattle.fmt_sort.specs.ValueParts.{plain_rank}
use Rattle.fmt_sort.proofs.order.ranks_of.Given as goal

-- the ranks of the fields so far
abbrev pub invariant-loop-field : goal.invariant-loop-field
invariant-loop-field l =
    map plain_rank l.ranks.items ≡ map (rank_in l.spec.free l.format) (take l.field-index (map wanted_of l.spec.fields.items))
