use Rattle.std.proofs.Common.{◌≡◌, map, take}
use Rattle.info_item.specs.View as view
use Rattle.job_pieces.proofs.parts.parts_of.Given as goal

abbrev pub invariant-loop-place : goal.invariant-loop-place
invariant-loop-place l = map (λ f. f.now) l.parts.items ≡ view.parts_of l.formats (take l.place-index l.places)
