use Rattle.std.proofs.Common.{◌≡◌, ◌+◌, ◌++◌, ◌∷◌, ◌∙◌, [], List, sym, ap, map, take, arith}
use Rattle.std.proofs.lemmas.List.{take_more, map-append}
use Rattle.folder_base.specs.Disk.{Names}
use Rattle.folder_base.specs.Files.{names_of, without}
use Rattle.folder_base.specs.Split.{without_all}
use Rattle.folder_base.specs.declared.replay.Replay.{Replay}
use Rattle.folder_base.proofs.Splitting.{without_more}
use Rattle.folder_base.proofs.starts.remove_starts.Goals as goal

pub loop-start-preserved : goal.loop-start-preserved
loop-start-preserved c =
    let items = c.deref-start-items.result.now in
    let at = c.loop-start.start-index in
    let start = c.start-item.result in
    let old = names_of c.args.files.now in
    let more : take (at + 1) items ≡ take at items ++ start ∷ [] = take_more items at start (omega arith) ∙ (λ i. take at items ++ sym c.start-item.is i ∷ []) in
    c.remove_all.ensures ∙ ap (without (names_of start.files)) c.loop-start.invariant
    ∙ sym (without_more (map (λ (r : Replay). names_of r.files) (take at items)) (names_of start.files) old)
    ∙ ap (λ (l : List Names). without_all l old) (sym (map-append (λ (r : Replay). names_of r.files) (take at items) (start ∷ [])) ∙ ap (map (λ (r : Replay). names_of r.files)) (sym more))
