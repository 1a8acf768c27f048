use Rattle.std.proofs.Common.{◌≡◌, ◌∙◌, ap, rules, None}
use Rattle.folder_base.specs.Files.{names_of, over}
use Rattle.folder_base.proofs.Copied.{over_nothing}
use Rattle.folder_base.proofs.files.copy_files.Goals as goal

pub returns : goal.returns
returns c =
    let empty : names_of c.new-copies.result ≡ (λ _. None) = search rules in
    c.in_ok-copy_all.ensures.ok ∙ ap (over (names_of c.args.files.now)) empty ∙ over_nothing (names_of c.args.files.now)
