use Rattle.std.proofs.Common.{◌≡◌, ◌+◌, ◌++◌, ◌∷◌, ◌∙◌, [], List, map, sym, ap, subst, take, arith}
use Rattle.std.specs.Prelude.{Vec}
use Rattle.std.specs.declared.alloc.Global.{Global}
use Rattle.std.proofs.lemmas.List.{take_more}
use Rattle.folder_base.specs.Files.{names_of}
use Rattle.folder_base.specs.Handing.{answers, UndoesOwn}
use Rattle.folder_base.specs.Listing.{listed}
use Rattle.folder_base.specs.Parts.{touches}
use Rattle.folder_base.specs.declared.change.Change.{Change}
use Rattle.folder_base.specs.declared.undo.Undo.{Undo}
use Rattle.folder_base.proofs.Handed.{undoes_more, undoes_no_more}
use Rattle.folder_base.proofs.own.own_undos.Goals as goal
use Rattle.folder_base.proofs.own.own_undos.Goals.{then-touch+in_ok-changes+in_ok-push, else-touch}

pub loop-changes-preserved : goal.loop-changes-preserved
loop-changes-preserved c = λ stems is apart.
    let mine = answers stems c.args.place in
    let live = names_of c.args.live.now in
    let items = c.deref-changes-items.result.now in
    let at = c.loop-changes.changes-index in
    let changes = c.changes-item.result in
    let front = take at items in
    let before : UndoesOwn mine live (listed front) c.loop-changes.own.items = c.loop-changes.invariant stems is apart in
    let more : take (at + 1) items ≡ front ++ changes ∷ [] = take_more items at changes (omega arith) ∙ (λ i. front ++ sym c.changes-item.is i ∷ []) in
    let touched : c.touch.result ≡ touches mine (map (λ (x : Change). x.name) changes.items) = c.touch.ensures stems is apart ∙ ap (λ (l : List Change). touches mine (map (λ x. x.name) l)) c.deref.ensures.value in
    subst (λ (l : List (Vec Change Global)). UndoesOwn mine live (listed l) c.if-touch.own.items) (sym more) (elim c.if-touch.branch [
      | then-touch+in_ok-changes+in_ok-push w ↦
          subst (λ (l : List Undo). UndoesOwn mine live (listed (front ++ changes ∷ [])) l) (sym (ap (λ own. own.items) w.own-is ∙ w.in_ok-push.ensures.items))
          (undoes_more mine live front c.loop-changes.own.items changes w.in_ok-changes.changes (sym touched ∙ w.if-touch.true) (w.in_ok-changes.ensures stems is apart) before)
      | else-touch w ↦
          subst (λ (l : List Undo). UndoesOwn mine live (listed (front ++ changes ∷ [])) l) (sym (ap (λ own. own.items) w.own-is))
          (undoes_no_more mine live front c.loop-changes.own.items changes (sym touched ∙ w.if-touch.false) before)
    ])
