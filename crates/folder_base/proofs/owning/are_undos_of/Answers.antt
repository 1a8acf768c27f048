use Rattle.std.proofs.Common.{◌≡◌, ◌∙◌, ◌+◌, ◌++◌, ◌∷◌, [], List, sym, refl, subst, take, arith}
use Rattle.std.proofs.lemmas.List.{take_more, take_all}
use Rattle.folder_base.specs.Index.{FindsPart}
use Rattle.folder_base.specs.Undo.{AreOwn}
use Rattle.folder_base.specs.declared.undo.Undo.{Undo}
use Rattle.folder_base.proofs.Rejoining.{are_own_push}
use Rattle.folder_base.proofs.owning.are_undos_of.Goals as goal

pub loop-undo-preserved : goal.loop-undo-preserved
loop-undo-preserved c = λ stems is.
    let items = c.deref-undo-items.result.now in
    let at = c.loop-undo.undo-index in
    let undo = c.undo-item.result in
    let more : take (at + 1) items ≡ take at items ++ undo ∷ [] = take_more items at undo (omega arith) ∙ (λ i. take at items ++ sym c.undo-item.is i ∷ []) in
    subst (λ (l : List Undo). AreOwn (λ name. FindsPart stems name c.args.place) l) (sym more)
    (are_own_push (λ name. FindsPart stems name c.args.place) (take at items) undo (c.loop-undo.invariant stems is) (c.if-not-is_undo_of.ensures refl stems is))

pub returns : goal.returns
returns c = λ yes stems is.
    let items = c.deref-undo-items.result.now in
    let all : take c.loop-undo.undo-index items ≡ items = take_all c.loop-undo.undo-index items (omega (arith, c.loop-undo-test.false)) in
    subst (λ (l : List Undo). AreOwn (λ name. FindsPart stems name c.args.place) l) (all ∙ c.deref-undo-items.ensures.value) (c.loop-undo.invariant stems is)
