use Rattle.tpl_lang.proofs.ReadingOpen.{front_open}
use Rattle.tpl_lang.proofs.laws.nothing_is_wrong_before_a_fault.Goals as goal

pub returns : goal.returns
returns c = front_open
