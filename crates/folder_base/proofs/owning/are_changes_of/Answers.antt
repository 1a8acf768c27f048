use Rattle.std.proofs.Common.{◌≡◌, ◌∙◌, ◌+◌, ◌++◌, ◌∷◌, [], List, sym, refl, subst, take, arith}
use Rattle.std.proofs.lemmas.List.{take_more, take_all}
use Rattle.folder_base.specs.Index.{FindsPart}
use Rattle.folder_base.specs.Undo.{AreOwnWas}
use Rattle.folder_base.specs.declared.change.Change.{Change}
use Rattle.folder_base.proofs.Handed.{are_own_was_more}
use Rattle.folder_base.proofs.owning.are_changes_of.Goals as goal

pub loop-change-preserved : goal.loop-change-preserved
loop-change-preserved c = λ stems is.
    let items = c.deref-change-items.result.now in
    let at = c.loop-change.change-index in
    let change = c.change-item.result in
    let more : take (at + 1) items ≡ take at items ++ change ∷ [] = take_more items at change (omega arith) ∙ (λ i. take at items ++ sym c.change-item.is i ∷ []) in
    subst (λ (l : List Change). AreOwnWas (λ name. FindsPart stems name c.args.place) l) (sym more)
    (are_own_was_more (λ name. FindsPart stems name c.args.place) (take at items) change (c.loop-change.invariant stems is) (c.if-not-is_change_of.ensures refl stems is))

pub returns : goal.returns
returns c = λ yes stems is.
    let items = c.deref-change-items.result.now in
    let all : take c.loop-change.change-index items ≡ items = take_all c.loop-change.change-index items (omega (arith, c.loop-change-test.false)) in
    subst (λ (l : List Change). AreOwnWas (λ name. FindsPart stems name c.args.place) l) (all ∙ c.deref-change-items.ensures.value) (c.loop-change.invariant stems is)
