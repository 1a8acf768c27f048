use Rattle.std.proofs.Common.{◌≡◌, ◌+◌, ◌++◌, ◌∷◌, ◌∙◌, [], List, get_or, sym, ap, subst, take, arith}
use Rattle.std.proofs.lemmas.List.{take_more, map-append}
use Rattle.folder_base.specs.Disk.{Name}
use Rattle.folder_base.specs.Files.{names_of}
use Rattle.folder_base.specs.Giving.{GivesEach}
use Rattle.folder_base.specs.Parts.{touches}
use Rattle.folder_base.specs.declared.change.Change.{Change}
use Rattle.folder_base.proofs.Giving.{names_in, is_new, given_first, given_more}
use Rattle.folder_base.proofs.parting.give_changes.Goals as goal

pub loop-at-init : goal.loop-at-init
loop-at-init c = λ stems is apart many. given_first stems (names_of c.args.live.now) c.args.changes.now.items c.args.lists.now.items

pub loop-at-preserved : goal.loop-at-preserved
loop-at-preserved c = λ stems is apart many.
    let live = names_of c.args.live.now in
    let items : List Change = c.args.changes.now.items in
    let at = c.loop-at.at in
    let change : Change = c.change-item.result in
    let front : List Change = take at items in
    let old = c.args.lists.now.items in
    let new = c.give_part.new.lists.items in
    let before : GivesEach stems live items (λ mine. touches mine (names_in front)) old c.loop-at.lists.items = c.loop-at.invariant stems is apart many in
    let here : get_or items at change ≡ change = sym (c.change-item.is ∙ ap (λ (l : List Change). get_or l at change) c.deref-change-items.ensures.value) in
    let more : take (at + 1) items ≡ front ++ change ∷ [] = take_more items at change (omega arith) ∙ (λ i. front ++ here i ∷ []) in
    let now = c.loop-at.lists.items in
    let given = c.in_ok-give_part.ensures stems is apart (before.many ∙ many) in
    let gives : GivesEach stems live items (is_new (names_in front) change.name) now new =
    subst (λ (name : Name). GivesEach stems live items (is_new (names_in front) name) now new) c.as_str-name.ensures
    (subst (λ (l : List Change). GivesEach stems live items (is_new (names_in l) c.as_str-name.result.now) now new) (ap (take at) c.deref.ensures.value) given) in
    subst (λ (names : List Name). GivesEach stems live items (λ mine. touches mine names) old new)
    (sym (ap names_in more ∙ map-append (λ (x : Change). x.name) front (change ∷ [])))
    (given_more stems live items (names_in front) change.name old now new before gives)
