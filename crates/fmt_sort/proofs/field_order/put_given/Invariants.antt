use Rattle.std.proofs.Common.{◌≡◌, map, vec_len}
use Rattle.std.specs.Prelude.{fold}
use Rattle.fmt_sort.specs.Read.{latest_first}
use Rattle.fmt_sort.specs.Reading.{put}
use Rattle.fmt_sort.specs.Spec.{wanted_of, wanted_when}
use Rattle.fmt_sort.proofs.field_order.put_given.Given as goal

-- the last fields are put
abbrev pub invariant-loop-field : goal.invariant-loop-field
invariant-loop-field l =
    fold put (map wanted_of l.initial.fields.items) (map (wanted_when l.free) (latest_first l.initial.given.items))
    ≡ fold put (map wanted_of l.fields.items) (map (wanted_when l.free) (latest_first l.given.items))

abbrev pub decreases-loop-field : goal.decreases-loop-field
decreases-loop-field l = vec_len l.given
