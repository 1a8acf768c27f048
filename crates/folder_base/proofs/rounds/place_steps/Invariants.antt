use Rattle.std.proofs.Common.{◌≡◌, map, take}
use Rattle.folder_base.specs.Places.{steps_in}
use Rattle.folder_base.proofs.rounds.place_steps.Given as goal

abbrev pub invariant-loop-place : goal.invariant-loop-place
invariant-loop-place l = map (λ steps. steps.now.items) l.lists.items ≡ steps_in (take l.place-index l.place-items)
