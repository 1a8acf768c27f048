use Rattle.std.proofs.Common.{◌≡◌, drop}
use Rattle.component_turn.specs.Judge.{some_lacks}
use Rattle.component_turn.proofs.judging.some_lacks.Given as goal

-- None of the pieces so far failed for want of memory.
abbrev pub invariant-loop-end : goal.invariant-loop-end
invariant-loop-end l = some_lacks (drop l.end-index l.ends) ≡ some_lacks l.ends
