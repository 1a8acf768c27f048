use Rattle.std.proofs.Common.{◌≡◌, map, take}
use Rattle.std.specs.Prelude.{slice_get, filter_map}
use Rattle.info_item.proofs.merged.parts_of.Given as goal

abbrev pub invariant-loop-place : goal.invariant-loop-place
invariant-loop-place l = map (λ f. f.now) l.parts.items ≡ filter_map (slice_get l.formats.items) (take l.place-index l.place-items)
