use Rattle.std.proofs.Common.{◌≡◌, map, take}
use Rattle.folder_base.proofs.rounds.part_steps.Given as goal

abbrev pub invariant-loop-steps : goal.invariant-loop-steps
invariant-loop-steps l = map (λ steps. steps.now.items) l.lists.items ≡ map (λ steps. steps.items) (take l.steps-index l.steps-items)
