use Rattle.std.proofs.Common.{◌≡◌, ◌+◌, ◌++◌, ◌∷◌, ◌∙◌, [], List, sym, subst, take, arith}
use Rattle.std.specs.Prelude.{Vec}
use Rattle.std.specs.declared.alloc.Global.{Global}
use Rattle.std.proofs.lemmas.List.{take_more}
use Rattle.folder_base.specs.Files.{names_of}
use Rattle.folder_base.specs.Giving.{ArePartUndos}
use Rattle.folder_base.specs.Listing.{listed}
use Rattle.folder_base.specs.declared.change.Change.{Change}
use Rattle.folder_base.proofs.Giving.{parted_none, parted_more}
use Rattle.folder_base.proofs.parting.split_undos.Goals as goal

pub loop-changes-init : goal.loop-changes-init
loop-changes-init c = λ stems is apart count. parted_none stems (names_of c.args.live.now) c.in_ok-lists.lists.items (c.in_ok-lists.ensures.many ∙ sym count) c.in_ok-lists.ensures.none

pub loop-changes-preserved : goal.loop-changes-preserved
loop-changes-preserved c = λ stems is apart count.
    let live = names_of c.args.live.now in
    let items = c.deref-changes-items.result.now in
    let at = c.loop-changes.changes-index in
    let changes = c.changes-item.result in
    let front = take at items in
    let old = c.loop-changes.lists.items in
    let new = c.give_changes.new.lists.items in
    let before : ArePartUndos stems live (listed front) old = c.loop-changes.invariant stems is apart count in
    let more : take (at + 1) items ≡ front ++ changes ∷ [] = take_more items at changes (omega arith) ∙ (λ i. front ++ sym c.changes-item.is i ∷ []) in
    subst (λ (l : List (Vec Change Global)). ArePartUndos stems live (listed l) new) (sym more)
    (parted_more stems live front changes old new before (c.in_ok-give_changes.ensures stems is apart before.many))
