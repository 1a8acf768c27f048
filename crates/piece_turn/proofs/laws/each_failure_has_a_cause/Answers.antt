use Rattle.piece_turn.proofs.EndLemmas.{has_cause}
use Rattle.piece_turn.proofs.laws.each_failure_has_a_cause.Goals as goal

pub returns : goal.returns
returns c = has_cause
