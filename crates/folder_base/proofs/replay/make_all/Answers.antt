use Rattle.std.proofs.Common.{◌≡◌, ◌∙◌, ◌+◌, ◌++◌, ◌∷◌, [], sym, subst, take, arith}
use Rattle.std.proofs.lemmas.List.{take_more}
use Rattle.folder_base.specs.Disk.{Disk}
use Rattle.folder_base.specs.Log.{told}
use Rattle.folder_base.specs.Undo.{IsReplayed}
use Rattle.folder_base.proofs.Stepping.{told_next}
use Rattle.folder_base.proofs.replay.make_all.Goals as goal

pub loop-step-preserved : goal.loop-step-preserved
loop-step-preserved c = λ story h.
    let items = c.deref-step-items.result.now in
    let at = c.loop-step.step-index in
    let step = c.step-item.result in
    let more : take (at + 1) items ≡ take at items ++ step ∷ [] = take_more items at step (omega arith) ∙ (λ i. take at items ++ sym c.step-item.is i ∷ []) in
    subst (λ (d : Disk). IsReplayed d c.make.new.self) (sym (told_next story (take at items) (take (at + 1) items) step more).now)
    (c.in_ok-make.ensures (told story (take at items)).now (c.loop-step.invariant story h))
