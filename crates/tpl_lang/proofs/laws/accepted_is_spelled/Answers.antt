use Rattle.tpl_lang.proofs.ReadingSpells.{template_spells}
use Rattle.tpl_lang.proofs.laws.accepted_is_spelled.Goals as goal

pub returns : goal.returns
returns c = template_spells
