use Rattle.std.proofs.Common.{◌≡◌, ◌+◌, ◌++◌, ◌∷◌, ◌∙◌, [], List, sym, ap, map, take, arith}
use Rattle.std.proofs.lemmas.List.{take_more, map-append}
use Rattle.folder_base.specs.Disk.{Names}
use Rattle.folder_base.specs.Files.{names_of, without}
use Rattle.folder_base.specs.Split.{without_all}
use Rattle.folder_base.specs.declared.line.Line.{Line}
use Rattle.folder_base.proofs.Splitting.{without_more}
use Rattle.folder_base.proofs.part_lines.remove_lines.Goals as goal

pub loop-line-preserved : goal.loop-line-preserved
loop-line-preserved c =
    let items = c.deref-line-items.result.now in
    let at = c.loop-line.line-index in
    let line = c.line-item.result in
    let old = names_of c.args.files.now in
    let more : take (at + 1) items ≡ take at items ++ line ∷ [] = take_more items at line (omega arith) ∙ (λ i. take at items ++ sym c.line-item.is i ∷ []) in
    c.remove_all.ensures ∙ ap (without (names_of line.files)) c.loop-line.invariant
    ∙ sym (without_more (map (λ (l : Line). names_of l.files) (take at items)) (names_of line.files) old)
    ∙ ap (λ (l : List Names). without_all l old) (sym (map-append (λ (l : Line). names_of l.files) (take at items) (line ∷ [])) ∙ ap (map (λ (l : Line). names_of l.files)) (sym more))
