use Rattle.std.proofs.Common.{◌≡◌, ◌∙◌, ◌+◌, ◌++◌, ◌∷◌, [], sym, ap, Some, None, take, arith}
use Rattle.std.proofs.lemmas.List.{take_more}
use Rattle.folder_base.specs.Disk.{put, lasting_file}
use Rattle.folder_base.specs.Log.{stood}
use Rattle.folder_base.proofs.Storing.{stood_push}
use Rattle.folder_base.proofs.files.store_all.Goals as goal

pub loop-file-preserved : goal.loop-file-preserved
loop-file-preserved c =
    let items = c.deref-file-items.result.now in
    let at = c.loop-file.file-index in
    let file = c.file-item.result in
    let more : take (at + 1) items ≡ take at items ++ file ∷ [] = take_more items at file (omega arith) ∙ (λ i. take at items ++ sym c.file-item.is i ∷ []) in
    c.in_ok-store_file.ensures
    ∙ (λ i. put (c.loop-file.invariant i) file.name (Some (lasting_file file.bytes.items)))
    ∙ sym (stood_push (λ _. None) (take at items) file)
    ∙ ap (stood (λ _. None)) (sym more)
