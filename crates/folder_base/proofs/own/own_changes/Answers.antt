use Rattle.std.proofs.Common.{◌≡◌, ◌+◌, ◌++◌, ◌∷◌, ◌∙◌, [], List, sym, subst, take, arith}
use Rattle.std.proofs.lemmas.List.{take_more}
use Rattle.folder_base.specs.Files.{names_of}
use Rattle.folder_base.specs.Handing.{answers, AreOwnChanges}
use Rattle.folder_base.specs.declared.change.Change.{Change}
use Rattle.folder_base.proofs.Handed.{own_changes_more}
use Rattle.folder_base.proofs.own.own_changes.Goals as goal

pub loop-change-preserved : goal.loop-change-preserved
loop-change-preserved c = λ stems is apart.
    let mine = answers stems c.args.place in
    let live = names_of c.args.live.now in
    let items = c.deref-change-items.result.now in
    let at = c.loop-change.change-index in
    let change = c.change-item.result in
    let own = c.in_ok-own_change.field-0 in
    let more : take (at + 1) items ≡ take at items ++ change ∷ [] = take_more items at change (omega arith) ∙ (λ i. take at items ++ sym c.change-item.is i ∷ []) in
    subst (λ (l : List Change). AreOwnChanges mine live l c.push.new.self.items) (sym more)
    (subst (λ (l : List Change). AreOwnChanges mine live (take at items ++ change ∷ []) l) (sym {A = List Change} c.in_ok-push.ensures.items)
    (own_changes_more mine live (take at items) c.loop-change.own.items change own (c.loop-change.invariant stems is apart) (c.in_ok-own_change.ensures stems is apart)))
