use Rattle.std.proofs.Common.{rules, Some}
use Rattle.folder_base.proofs.Lent.{updated}
use Rattle.folder_base.proofs.files.place_file.Goals as goal

pub returns-in-Some : goal.returns-in-Some
returns-in-Some c = updated c.args.name.now c.args.files.now (c.get_mut.follows.lender c.args.file) (Some c.args.file) ((c.get_mut.follows.holds c.args.file).3 (search rules))
