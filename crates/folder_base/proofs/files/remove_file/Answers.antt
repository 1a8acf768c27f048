use Rattle.std.proofs.Common.{None}
use Rattle.folder_base.proofs.Lent.{updated}
use Rattle.folder_base.proofs.files.remove_file.Goals as goal

pub returns-clause-names : goal.returns-clause-names
returns-clause-names c = updated c.args.name.now c.args.files.now c.remove.new.self None c.remove.ensures.updates
