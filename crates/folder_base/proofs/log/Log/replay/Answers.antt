use Rattle.std.proofs.Common.{◌≡◌, ◌∙◌, ◌+◌, ◌++◌, ◌∷◌, [], List, sym, ap, subst, take, arith}
use Rattle.std.proofs.lemmas.List.{take_more}
use Rattle.folder_base.specs.Log.{Chapter, begun, chapter_after}
use Rattle.folder_base.specs.Undo.{IsReplayed}
use Rattle.folder_base.specs.declared.round.Round.{Round}
use Rattle.folder_base.proofs.Telling.{chapter_more}
use Rattle.folder_base.proofs.log.Log.replay.Goals as goal

pub loop-round-preserved : goal.loop-round-preserved
loop-round-preserved c =
    let items = c.deref-round-items.result.now in
    let at = c.loop-round.round-index in
    let round = c.round-item.result in
    let first : Chapter = record { story = begun c.args.self.now.birth.items; since = 0 } in
    let more : take (at + 1) items ≡ take at items ++ round ∷ [] = take_more items at round (omega arith) ∙ (λ i. take at items ++ sym c.round-item.is i ∷ []) in
    subst (λ (chapter : Chapter). IsReplayed chapter.story.now c.make.new.replay)
    (sym (ap (λ (l : List Round). chapter_after first l) more ∙ chapter_more first (take at items) round))
    (c.in_ok-make.ensures (chapter_after first (take at items)) c.loop-round.invariant)
