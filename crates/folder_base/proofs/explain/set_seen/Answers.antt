use Rattle.std.proofs.Common.{◌≡◌, ◌∙◌, ◌+◌, ◌++◌, ◌∷◌, [], List, sym, ap, take, arith}
use Rattle.std.proofs.lemmas.List.{take_more}
use Rattle.folder_base.specs.Listing.{seen_spots}
use Rattle.folder_base.specs.Undo.{lost_spot, still_spot, set_spot, set_spots}
use Rattle.folder_base.specs.declared.change.Change.{Change}
use Rattle.folder_base.proofs.Undoing.{set_more}
use Rattle.folder_base.proofs.explain.set_seen.Goals as goal

pub loop-change-preserved : goal.loop-change-preserved
loop-change-preserved c = λ live.
    let items = c.deref-change-items.result.now in
    let at = c.loop-change.change-index in
    let change = c.change-item.result in
    let old = seen_spots live c.args.seen.now in
    let more : take (at + 1) items ≡ take at items ++ change ∷ [] = take_more items at change (omega arith) ∙ (λ i. take at items ++ sym c.change-item.is i ∷ []) in
    c.in_ok-set_one.ensures live ∙ ap (set_spot change) (c.loop-change.invariant live)
    ∙ sym (set_more lost_spot still_spot (take at items) change old) ∙ ap (λ (l : List Change). set_spots l old) (sym more)
