use Rattle.std.proofs.Common.{◌≡◌, ◌∙◌, string_bytes, Some, rules}
use Rattle.std.proofs.lemmas.Result.{IfOk-at_ok}
use Rattle.folder_base.specs.Disk.{put, lasting_file}
use Rattle.folder_base.specs.Files.{names_of}
use Rattle.folder_base.specs.Stored.{file_of}
use Rattle.folder_base.proofs.Lent.{updated}
use Rattle.folder_base.proofs.files.store_file.Goals as goal

pub returns : goal.returns
returns c =
    let key_is : string_bytes c.in_ok-key.key ≡ c.args.file.now.name = IfOk-at_ok (λ s. string_bytes s ≡ c.as_str.result.now) c.in_ok-key.was c.from_str.ensures.ok ∙ c.as_str.ensures in
    let file_is : file_of c.in_ok-lasting.field-0 ≡ lasting_file c.args.file.now.bytes.items = search rules in
    updated (string_bytes c.in_ok-key.key) c.args.files.now c.insert.new.self (Some c.in_ok-lasting.field-0) c.in_ok-insert.ensures.updates
    ∙ (λ i. put (names_of c.args.files.now) (key_is i) (Some (file_is i)))
