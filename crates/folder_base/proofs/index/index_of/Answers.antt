use Rattle.std.proofs.Common.{◌≡◌, ◌+◌, ◌∷◌, ◌++◌, ◌∙◌, [], sym, take, length, arith, rules}
use Rattle.std.proofs.lemmas.Grind.{common_steps}
use Rattle.std.proofs.lemmas.List.{take_more}
use Rattle.folder_base.proofs.Placed.{index_next}
use Rattle.folder_base.proofs.index.index_of.Goals as goal

pub loop-at-preserved : goal.loop-at-preserved
loop-at-preserved c =
    let items = c.deref-stem-items.result.now in
    let at = c.loop-at.at in
    let stem = c.stem-item.result in
    let more : take (at + 1) items ≡ take at items ++ stem ∷ [] = take_more items at stem (omega arith) ∙ (λ i. take at items ++ sym c.stem-item.is i ∷ []) in
    let counted : at ≡ length (take at items) = grind (arith, common_steps) in
    let key_is : c.in_ok-to_vec.field-0.items ≡ stem = first_of (search rules, grind (arith, common_steps)) in
    index_next (take (at + 1) items) (take at items) stem c.in_ok-to_vec.field-0.items at c.loop-at.index c.insert.new.self c.loop-at.invariant more key_is counted c.in_ok-insert.ensures.updates
