use Rattle.std.proofs.Common.{◌≡◌, ◌∙◌, rules, sym, ap, string_bytes, Some, None}
use Rattle.std.specs.Prelude.{Option, option_map}
use Rattle.std.specs.BTreeMap.{get_by_text}
use Rattle.std.proofs.lemmas.Result.{IfOk-at_ok}
use Rattle.folder_base.specs.Disk.{put, File}
use Rattle.folder_base.specs.Files.{names_of}
use Rattle.folder_base.specs.Stored.{file_of}
use Rattle.folder_base.specs.declared.stored.Stored.{Stored}
use Rattle.folder_base.proofs.Lent.{updated}
use Rattle.folder_base.proofs.files.copy_name.Goals as goal

pub returns-in_ok-insert-in-Some-clause-ok : goal.returns-in_ok-insert-in-Some-clause-ok
returns-in_ok-insert-in-Some-clause-ok c =
    let key = c.in_ok-from_str-in-Some.field-0 in
    let key_is : string_bytes key ≡ c.args.name.now = IfOk-at_ok (λ s. string_bytes s ≡ c.args.name.now) c.in_ok-from_str-in-Some.was c.from_str.ensures.ok in
    let was : get_by_text c.args.from.now c.args.name.now ≡ Some c.in-Some.file.now = search rules in
    let copy_is : Some (file_of c.in_ok-copy-in-Some.copy) ≡ names_of c.args.from.now c.args.name.now =
    ap (λ (f : File). Some f) c.in_ok-copy-in-Some.ensures ∙ sym (ap (λ (o : Option Stored). option_map file_of o) was) in
    updated (string_bytes key) c.args.to.now c.insert.new.self (Some c.in_ok-copy-in-Some.copy) c.in_ok-insert-in-Some.ensures.updates
    ∙ (λ i. put (names_of c.args.to.now) (key_is i) (copy_is i))

pub returns-in-None-clause-ok : goal.returns-in-None-clause-ok
returns-in-None-clause-ok c =
    let none : get_by_text c.args.from.now c.args.name.now ≡ None = search rules in
    c.remove_file.ensures.names
    ∙ ap (put (names_of c.args.to.now) c.args.name.now) (sym (ap (λ (o : Option Stored). option_map file_of o) none))
