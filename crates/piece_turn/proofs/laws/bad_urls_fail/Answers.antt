use Rattle.piece_turn.proofs.EndLemmas.{bad_url}
use Rattle.piece_turn.proofs.laws.bad_urls_fail.Goals as goal

pub returns : goal.returns
returns c = bad_url
