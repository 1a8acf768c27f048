use Rattle.std.proofs.Common.{◌≡◌, ◌≤◌, ◌<◌, ◌∙◌, ℕ, sym, ap, subst, length, arith}
use Rattle.std.specs.Prelude.{Option, Some, Vec, slice_get}
use Rattle.std.specs.declared.alloc.Global.{Global}
use Rattle.std.proofs.lemmas.Option.{slice_get-get_or, slice_get_within}
use Rattle.folder_base.specs.Files.{names_of}
use Rattle.folder_base.specs.Index.{FindsPart}
use Rattle.folder_base.specs.declared.undo.Undo.{Undo}
use Rattle.folder_base.proofs.Giving.{names_in, given_none, given_before, given_now}
use Rattle.folder_base.proofs.parting.give_part.Goals as goal

pub returns-in_default : goal.returns-in_default
returns-in_default c = λ stems is apart many.
    given_none stems (names_of c.args.live.now) c.args.changes.now.items apart (names_in c.args.earlier.now) c.args.name.now c.args.lists.now.items
    (subst (λ (found : Option ℕ). FindsPart stems c.args.name.now found) c.in_default.is (c.find_part.ensures stems is))

pub returns-then-touch : goal.returns-then-touch
returns-then-touch c = λ stems is apart many.
    given_before stems (names_of c.args.live.now) c.args.changes.now.items apart (names_in c.args.earlier.now) c.args.name.now c.args.lists.now.items
    c.in-Some.place (c.in-Some.ensures stems is) (sym (c.touch.ensures stems is apart) ∙ c.if-touch.true)

pub returns-in_ok-push : goal.returns-in_ok-push
returns-in_ok-push c = λ stems is apart many.
    let old = c.args.lists.now.items in
    let item : Vec Undo Global = c.index_mut.result.now in
    let lt : c.in-Some.place < length old = omega (arith, c.if-place-len.true) in
    let stands : slice_get old c.in-Some.place ≡ Some item = slice_get-get_or old c.in-Some.place item lt ∙ ap (λ (own : Vec Undo Global). Some own) (sym c.index_mut.ensures.value) in
    given_now stems (names_of c.args.live.now) c.args.changes.now.items apart (names_in c.args.earlier.now) c.args.name.now old
    c.in-Some.place (c.in-Some.ensures stems is) (sym (c.touch.ensures stems is apart) ∙ c.if-touch.false)
    item c.push.new.self c.in_ok-changes.changes stands (c.in_ok-changes.ensures stems is apart) c.in_ok-push.ensures.items

pub returns-else-place-len : goal.returns-else-place-len
returns-else-place-len c = λ stems is apart many.
    let found = c.in-Some.ensures stems is in
    let within : c.in-Some.place < length stems = slice_get_within stems c.in-Some.place found.0 found.1 in
    let past : length c.args.lists.now.items ≤ c.in-Some.place = omega (arith, c.if-place-len.false) in
    absurd (omega (arith, within, past, many))
