use Rattle.sel_lang.proofs.ReadOpensLemmas.{front_open}
use Rattle.sel_lang.proofs.laws.nothing_is_wrong_before_a_fault.Goals as goal

pub returns : goal.returns
returns c = front_open
