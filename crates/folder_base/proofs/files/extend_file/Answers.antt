use Rattle.std.proofs.Common.{◌≡◌, rules, Some}
use Rattle.std.specs.BTreeMap.{get_by_text}
use Rattle.folder_base.specs.Disk.{longer}
use Rattle.folder_base.proofs.Lent.{set_to, kept}
use Rattle.folder_base.proofs.files.extend_file.Goals as goal

pub returns-in-Ok-clause-names : goal.returns-in-Ok-clause-names
returns-in-Ok-clause-names c =
    let was : get_by_text c.args.files.now c.args.name.now ≡ Some c.in-Some.file.now = search rules in
    set_to c.args.name.now c.args.files.now (c.get_mut.follows.lender c.extend.new.self) c.extend.new.self c.in-Some.file.now was ((c.get_mut.follows.holds c.extend.new.self).3 (search rules)) (longer c.args.bytes.now) c.in-Ok.ensures.ok

pub returns-in-Err-clause-err : goal.returns-in-Err-clause-err
returns-in-Err-clause-err c =
    let was : get_by_text c.args.files.now c.args.name.now ≡ Some c.in-Some.file.now = search rules in
    kept c.args.name.now c.args.files.now (c.get_mut.follows.lender c.extend.new.self) c.extend.new.self c.in-Some.file.now was ((c.get_mut.follows.holds c.extend.new.self).3 (search rules)) c.in-Err.ensures.err
