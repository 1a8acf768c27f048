use Rattle.std.proofs.Common.{◌≡◌, drop}
use Rattle.component_turn.specs.Judge.{first_failed}
use Rattle.component_turn.proofs.judging.first_failed.Given as goal

-- None of the pieces so far failed.
abbrev pub invariant-loop-piece : goal.invariant-loop-piece
invariant-loop-piece l = first_failed l.piece (drop l.piece l.ends) ≡ first_failed 0 l.ends
