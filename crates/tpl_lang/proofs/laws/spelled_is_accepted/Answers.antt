use Rattle.tpl_lang.proofs.ReadingAgain.{template_again}
use Rattle.tpl_lang.proofs.laws.spelled_is_accepted.Goals as goal

pub returns : goal.returns
returns c = template_again
