use Rattle.std.proofs.Common.{◌≡◌, take}
use Rattle.sel_eval.specs.Placed.{at_places}
use Rattle.sel_eval.proofs.placed.at_places.Given as goal

abbrev pub invariant-loop-place : goal.invariant-loop-place
invariant-loop-place l = l.all.items ≡ at_places l.formats (take l.place-index l.places)
