use Rattle.std.proofs.Common.{◌≡◌, ◌∙◌, string_bytes, Some}
use Rattle.std.proofs.lemmas.Result.{IfOk-at_ok}
use Rattle.folder_base.specs.Disk.{put}
use Rattle.folder_base.specs.Files.{names_of}
use Rattle.folder_base.proofs.Lent.{updated}
use Rattle.folder_base.proofs.files.create_file.Goals as goal

pub returns-in-Ok-clause-names : goal.returns-in-Ok-clause-names
returns-in-Ok-clause-names c =
    let key_is : string_bytes c.in_ok-key.key ≡ c.args.name.now = IfOk-at_ok (λ s. string_bytes s ≡ c.args.name.now) c.in_ok-key.was c.from_str.ensures.ok in
    updated (string_bytes c.in_ok-key.key) c.args.files.now c.insert.new.self (Some c.empty.result) c.in-Ok.ensures.updates
    ∙ (λ i. put (names_of c.args.files.now) (key_is i) (Some (c.empty.ensures i)))
