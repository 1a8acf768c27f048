use Rattle.std.proofs.Common.{◌≡◌, ◌∙◌, string_bytes, Some, None, option_map, sym, ap}
use Rattle.std.specs.Prelude.{Option}
use Rattle.std.proofs.lemmas.Result.{IfOk-at_ok}
use Rattle.folder_base.specs.Disk.{put}
use Rattle.folder_base.specs.Files.{names_of}
use Rattle.folder_base.specs.Stored.{file_of}
use Rattle.folder_base.specs.declared.stored.Stored.{Stored}
use Rattle.folder_base.proofs.Lent.{updated}
use Rattle.folder_base.proofs.files.put_file.Goals as goal

pub returns-in_ok-insert-in-Some-clause-names : goal.returns-in_ok-insert-in-Some-clause-names
returns-in_ok-insert-in-Some-clause-names c =
    let key = c.in_ok-key-in-Some.key in
    let key_is : string_bytes key ≡ c.args.name.now = IfOk-at_ok (λ s. string_bytes s ≡ c.args.name.now) c.in_ok-key-in-Some.was c.from_str.ensures.ok in
    updated (string_bytes key) c.args.files.now c.insert.new.self (Some c.in-Some.file) c.in_ok-insert-in-Some.ensures.updates
    ∙ (λ i. put (names_of c.args.files.now) (key_is i) (option_map file_of (sym c.in-Some.is i)))

pub returns-in-None-clause-names : goal.returns-in-None-clause-names
returns-in-None-clause-names c =
    updated c.args.name.now c.args.files.now c.remove.new.self None c.remove.ensures.updates
    ∙ ap (λ (o : Option Stored). put (names_of c.args.files.now) c.args.name.now (option_map file_of o)) (sym c.in-None.is)
