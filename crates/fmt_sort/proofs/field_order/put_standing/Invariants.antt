use Rattle.std.proofs.Common.{◌≡◌, map, drop}
use Rattle.std.specs.Prelude.{fold}
use Rattle.fmt_sort.specs.Reading.{put, standing}
use Rattle.fmt_sort.specs.Spec.{wanted_of}
use Rattle.fmt_sort.proofs.field_order.put_standing.Given as goal

-- the fields of the keys so far are put
abbrev pub invariant-loop-key : goal.invariant-loop-key
invariant-loop-key l =
    fold put (map wanted_of l.initial.fields.items) (map standing l.keys) ≡ fold put (map wanted_of l.fields.items) (drop l.key-index (map standing l.keys))
