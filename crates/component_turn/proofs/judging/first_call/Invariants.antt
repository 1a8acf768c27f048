use Rattle.std.proofs.Common.{◌≡◌, drop}
use Rattle.component_turn.specs.Judge.{first_call}
use Rattle.component_turn.proofs.judging.first_call.Given as goal

-- None of the pieces so far failed by the folder.
abbrev pub invariant-loop-end : goal.invariant-loop-end
invariant-loop-end l = first_call (drop l.end-index l.ends) ≡ first_call l.ends
