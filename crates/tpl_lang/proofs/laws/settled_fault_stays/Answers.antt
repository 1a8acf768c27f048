use Rattle.tpl_lang.proofs.ReadingStays.{fault_stays}
use Rattle.tpl_lang.proofs.laws.settled_fault_stays.Goals as goal

pub returns : goal.returns
returns c = fault_stays
