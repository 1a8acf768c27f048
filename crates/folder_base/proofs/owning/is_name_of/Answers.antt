use Rattle.std.proofs.Common.{◌∙◌}
use Rattle.folder_base.proofs.Handed.{found_is}
use Rattle.folder_base.proofs.owning.is_name_of.Goals as goal

pub returns-clause-exact : goal.returns-clause-exact
returns-clause-exact c = λ stems is apart. c.eq.ensures ∙ found_is stems apart c.args.name.now c.find_part.result c.args.place (c.find_part.ensures stems is)
