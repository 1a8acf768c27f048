use Rattle.sel_lang.proofs.ReadStaysLemmas.{fault_stays}
use Rattle.sel_lang.proofs.laws.settled_fault_stays.Goals as goal

pub returns : goal.returns
returns c = fault_stays
