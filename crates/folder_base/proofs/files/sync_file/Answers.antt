use Rattle.std.proofs.Common.{◌≡◌, rules, Some}
use Rattle.std.specs.BTreeMap.{get_by_text}
use Rattle.folder_base.specs.Disk.{firm}
use Rattle.folder_base.proofs.Lent.{set_to}
use Rattle.folder_base.proofs.files.sync_file.Goals as goal

pub returns-in-Some-clause-names : goal.returns-in-Some-clause-names
returns-in-Some-clause-names c =
    let was : get_by_text c.args.files.now c.args.name.now ≡ Some c.in-Some.file.now = search rules in
    set_to c.args.name.now c.args.files.now (c.get_mut.follows.lender c.make_firm.new.self) c.make_firm.new.self c.in-Some.file.now was ((c.get_mut.follows.holds c.make_firm.new.self).3 (search rules)) firm c.make_firm.ensures
