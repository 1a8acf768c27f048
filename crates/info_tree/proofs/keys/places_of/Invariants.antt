use Rattle.std.proofs.Common.{take}
use Rattle.info_tree.specs.Keys.{TellsPlaces}
use Rattle.info_tree.proofs.keys.places_of.Given as goal

abbrev pub invariant-loop-place : goal.invariant-loop-place
invariant-loop-place l = TellsPlaces l.places (take l.place l.texts.items)
