use Rattle.std.proofs.Common.{◌≡◌, ◌∙◌, rules, Some, None, sym, ap, true, is_some}
use Rattle.std.specs.Prelude.{Option, option_map}
use Rattle.std.specs.BTreeMap.{get_by_text}
use Rattle.folder_base.specs.Disk.{Names, put, empty_file}
use Rattle.folder_base.specs.Files.{names_of}
use Rattle.folder_base.specs.Stored.{file_of}
use Rattle.folder_base.specs.declared.stored.Stored.{Stored}
use Rattle.folder_base.proofs.Lent.{updated, put_again, still_there, not_lost, made_stands}
use Rattle.folder_base.proofs.files.move_file.Goals as goal

pub returns-in_default-clause-gone : goal.returns-in_default-clause-gone
returns-in_default-clause-gone c _ =
    let stood : is_some (get_by_text c.args.files.now c.args.from.now) ≡ true = search rules in
    let gone : get_by_text c.create_file.new.files c.args.from.now ≡ None = search rules in
    absurd (not_lost c.args.files.now c.create_file.new.files c.args.from.now c.args.to.now (Some empty_file) c.in_ok-create_file.ensures.names c.requires stood gone)

pub returns-in_default-clause-stood : goal.returns-in_default-clause-stood
returns-in_default-clause-stood c =
    let stood : is_some (get_by_text c.args.files.now c.args.from.now) ≡ true = search rules in
    let gone : get_by_text c.create_file.new.files c.args.from.now ≡ None = search rules in
    absurd (not_lost c.args.files.now c.create_file.new.files c.args.from.now c.args.to.now (Some empty_file) c.in_ok-create_file.ensures.names c.requires stood gone)

pub place_file-requires : goal.place_file-requires
place_file-requires c =
    ap (λ (m : Names). is_some (m c.args.to.now)) (updated c.args.from.now c.create_file.new.files c.remove.new.self None c.remove.ensures.updates)
    ∙ made_stands (names_of c.args.files.now) (names_of c.create_file.new.files) c.args.from.now c.args.to.now empty_file c.in_ok-create_file.ensures.names c.requires

pub returns-clause-names : goal.returns-clause-names
returns-clause-names c _ =
    let made : names_of c.create_file.new.files ≡ put (names_of c.args.files.now) c.args.to.now (Some empty_file) = c.in_ok-create_file.ensures.names in
    let gone = updated c.args.from.now c.create_file.new.files c.remove.new.self None c.remove.ensures.updates in
    let was : get_by_text c.create_file.new.files c.args.from.now ≡ Some c.in-Some.file = search rules in
    let file_is : Some (file_of c.in-Some.file) ≡ names_of c.args.files.now c.args.from.now =
    sym (ap (λ (o : Option Stored). option_map file_of o) was) ∙ still_there c.args.files.now c.create_file.new.files c.args.from.now c.args.to.now (Some empty_file) made c.requires in
    c.place_file.ensures
    ∙ (λ i. put ((gone ∙ ap (λ (m : Names). put m c.args.from.now None) made) i) c.args.to.now (file_is i))
    ∙ put_again (names_of c.args.files.now) c.args.from.now c.args.to.now (Some empty_file) (names_of c.args.files.now c.args.from.now)
