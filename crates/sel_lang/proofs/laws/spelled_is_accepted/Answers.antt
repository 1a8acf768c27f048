use Rattle.sel_lang.proofs.ReadAgainLemmas.{sel_again}
use Rattle.sel_lang.proofs.laws.spelled_is_accepted.Goals as goal

pub returns : goal.returns
returns c = sel_again
