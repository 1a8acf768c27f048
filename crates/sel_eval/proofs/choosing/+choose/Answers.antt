use Rattle.std.proofs.Common.{◌≡◌, ◌≤◌, ◌<◌, ◌+◌, ◌++◌, [], List, map, take, drop, length, ap, sym, refl, ◌∙◌, arith}
use Rattle.std.specs.Vec.{vec_len}
use Rattle.std.proofs.lemmas.List.{nil_from_length, take_all}
use Rattle.std.proofs.lemmas.Bool.Decides.{nat_tests}
use Rattle.std.proofs.lemmas.Result.{err_from_is_err_and}
use Rattle.sel_lang.specs.Plain.{narrow, name, plain_filter, plains_of}
use Rattle.sel_lang.specs.View.{plain}
use Rattle.sel_lang.specs.declared.sel.Sel.{Sel}
use Rattle.sel_eval.specs.Answer.{Answers}
use Rattle.sel_eval.specs.Den.{Choices, den, den_each, large, joined, meeting}
use Rattle.sel_eval.proofs.DenLemmas.{plain_narrow, plain_name, fault_passes, next_part, no_part, any_more, any_here, list_more, list_over, list_large, list_done, first_more, first_large_more, first_large_here, first_is, first_none, no_parts, merge_more, merge_done, merge_large, same_answer, narrow_answer, name_answer}
use Rattle.sel_eval.proofs.choosing.+choose.Goals as goal

pub choices_of-returns-in_ok-inner-in-Narrow : goal.choices_of-returns-in_ok-inner-in-Narrow
choices_of-returns-in_ok-inner-in-Narrow t c =
    let s = c.args.policy.now.streams.now in
    let b = c.args.policy.now.both in
    let x = plain c.in-Narrow.inner.value in
    let f = plain_filter c.in-Narrow.filter in
    let is : plain c.args.sel.now ≡ narrow x f = ap plain c.in-Narrow.is ∙ plain_narrow c.in-Narrow.inner c.in-Narrow.filter in
    let formats : c.in_ok-left-in-Narrow.left.items ≡ meeting f c.args.formats.now = c.in_ok-left-in-Narrow.ensures in
    let inner : Answers c.choices_of.result (den s b (plain c.in_ok-inner-in-Narrow.inner.now) c.in_ok-inner-in-Narrow.left.items) (large s b (plain c.in_ok-inner-in-Narrow.inner.now) c.in_ok-inner-in-Narrow.left.items) =
    rw (← c.deref-in-Narrow-2.ensures.value) c.choices_of.ensures in
    let whole : Answers c.choices_of.result (den s b x c.in_ok-left-in-Narrow.left.items) (large s b x c.in_ok-left-in-Narrow.left.items) =
    rw (← c.deref-in-Narrow.ensures) (same_answer c.choices_of.result s b (plain c.in_ok-inner-in-Narrow.inner.now) (plain c.deref-in-Narrow.result.now) c.in_ok-inner-in-Narrow.left.items c.in_ok-left-in-Narrow.left.items
    c.in_ok-inner-in-Narrow.ensures.same inner) in
    rw is (narrow_answer c.choices_of.result s b x f c.args.formats.now (rw (← formats) whole))

pub choices_of-returns-in-Name : goal.choices_of-returns-in-Name
choices_of-returns-in-Name t c =
    let is : plain c.args.sel.now ≡ name c.in-Name.pick = ap plain c.in-Name.is ∙ plain_name c.in-Name.pick in
    rw is (name_answer _ c.args.policy.now.streams.now c.args.policy.now.both c.in-Name.pick c.args.formats.now c.picked.ensures)

pub list-returns-in_err-choices : goal.list-returns-in_err-choices
list-returns-in_err-choices t c =
    let s = c.args.policy.now.streams.now in
    let b = c.args.policy.now.both in
    let ps = c.args.formats.now in
    let parts = c.args.parts.now in
    let x = plain c.part-item.result in
    let rest = plains_of (map plain (drop (c.loop-part.part-index + 1) parts)) in
    let p = err_from_is_err_and c.from_residual.result c.from_residual.ensures.1 in
    let here = next_part parts c.loop-part.part-index c.part-item.result c.loop-part-test.true c.part-item.is in
    let small = rw here at c.loop-part.invariant.1 in
    rw (p.1, p.2) (fault_passes c.in_err-choices.field-0.0 _ _ _ _
    (λ is. list_large s b ps (plains_of (map plain parts)) (any_here s b ps x rest _ small is))
    c.in_err-choices.ensures)

pub list-returns-then-len : goal.list-returns-then-len
list-returns-then-len t c =
    let s = c.args.policy.now.streams.now in
    let b = c.args.policy.now.both in
    let ps = c.args.formats.now in
    let parts = c.args.parts.now in
    let x = plain c.part-item.result in
    let rest = plains_of (map plain (drop (c.loop-part.part-index + 1) parts)) in
    let here = next_part parts c.loop-part.part-index c.part-item.result c.loop-part-test.true c.part-item.is in
    let so_far = rw here at c.loop-part.invariant.0 in
    list_over s b ps c.loop-part.all.items c.in_ok-choices.choices.items x rest (plains_of (map plain parts)) (omega arith) (omega arith) c.in_ok-choices.ensures.0 so_far

pub list-loop-part-preserved : goal.list-loop-part-preserved
list-loop-part-preserved t c =
    let s = c.args.policy.now.streams.now in
    let b = c.args.policy.now.both in
    let ps = c.args.formats.now in
    let parts = c.args.parts.now in
    let x = plain c.part-item.result in
    let rest = plains_of (map plain (drop (c.loop-part.part-index + 1) parts)) in
    let here = next_part parts c.loop-part.part-index c.part-item.result c.loop-part-test.true c.part-item.is in
    let so_far = rw here at c.loop-part.invariant.0 in
    let small = rw here at c.loop-part.invariant.1 in
    let room : vec_len c.append.new.self ≤ 10000 = omega (arith, c.in_ok-append.ensures.len) in (
      ap (λ (z : Choices). z ++ joined (den_each s b rest ps)) c.in_ok-append.ensures.items
          ∙ list_more s b ps c.loop-part.all.items c.in_ok-choices.choices.items x rest _ c.in_ok-choices.ensures.0 so_far,
      any_more s b ps x rest _ c.in_ok-choices.ensures.1 small,
      room,
    )

pub list-returns : goal.list-returns
list-returns t c =
    let none = no_part c.args.parts.now c.loop-part.part-index c.loop-part-test.false in
    list_done c.args.policy.now.streams.now c.args.policy.now.both c.args.formats.now c.loop-part.all (plains_of (map plain c.args.parts.now)) _ none (omega arith)
    c.loop-part.invariant.0 c.loop-part.invariant.1

pub first-returns-in_err-choices : goal.first-returns-in_err-choices
first-returns-in_err-choices t c =
    let s = c.args.policy.now.streams.now in
    let b = c.args.policy.now.both in
    let ps = c.args.formats.now in
    let parts = c.args.parts.now in
    let x = plain c.part-item.result in
    let rest = plains_of (map plain (drop (c.loop-part.part-index + 1) parts)) in
    let p = err_from_is_err_and c.from_residual.result c.from_residual.ensures.1 in
    let here = next_part parts c.loop-part.part-index c.part-item.result c.loop-part-test.true c.part-item.is in
    let small = rw here at c.loop-part.invariant.1 in
    rw (p.1, p.2) (fault_passes c.in_err-choices.field-0.0 _ _ _ _
    (λ is. first_large_here s b ps x rest (plains_of (map plain parts)) small is)
    c.in_err-choices.ensures)

pub first-returns-then-not-is_empty : goal.first-returns-then-not-is_empty
first-returns-then-not-is_empty t c =
    let s = c.args.policy.now.streams.now in
    let b = c.args.policy.now.both in
    let ps = c.args.formats.now in
    let parts = c.args.parts.now in
    let x = plain c.part-item.result in
    let rest = plains_of (map plain (drop (c.loop-part.part-index + 1) parts)) in
    let here = next_part parts c.loop-part.part-index c.part-item.result c.loop-part-test.true c.part-item.is in
    let some : 0 < length c.in_ok-choices.choices.items = grind (arith, nat_tests, c.in_ok-choices.choices.ok.0) in
    first_is s b ps c.in_ok-choices.choices c.in_ok-choices.choices.items x rest (plains_of (map plain parts)) refl some c.in_ok-choices.ensures.0 c.in_ok-choices.ensures.1
    (rw here at c.loop-part.invariant.0) (rw here at c.loop-part.invariant.1)

pub first-loop-part-preserved : goal.first-loop-part-preserved
first-loop-part-preserved t c =
    let s = c.args.policy.now.streams.now in
    let b = c.args.policy.now.both in
    let ps = c.args.formats.now in
    let parts = c.args.parts.now in
    let x = plain c.part-item.result in
    let rest = plains_of (map plain (drop (c.loop-part.part-index + 1) parts)) in
    let here = next_part parts c.loop-part.part-index c.part-item.result c.loop-part-test.true c.part-item.is in
    let empty : c.in_ok-choices.choices.items ≡ [] = nil_from_length _ (grind (arith, nat_tests, c.in_ok-choices.choices.ok.0)) in
    let none : den s b x ps ≡ [] = sym c.in_ok-choices.ensures.0 ∙ empty in (
      first_more s b ps x rest _ none (rw here at c.loop-part.invariant.0),
      first_large_more s b ps x rest _ c.in_ok-choices.ensures.1 none (rw here at c.loop-part.invariant.1),
    )

pub first-returns : goal.first-returns
first-returns t c =
    let none = no_part c.args.parts.now c.loop-part.part-index c.loop-part-test.false in
    first_none c.args.policy.now.streams.now c.args.policy.now.both c.args.formats.now c.new.result (plains_of (map plain c.args.parts.now)) _ none c.new.ensures.items
    c.loop-part.invariant.0 c.loop-part.invariant.1

pub merge-loop-part-init : goal.merge-loop-part-init
merge-loop-part-init t c =
    (no_parts c.args.policy.now.streams.now c.args.policy.now.both c.args.formats.now c.in_ok-merging.merging (c.in_ok-merging.ensures c.args.policy.now.streams.now), refl)

pub merge-returns-in_err-choices : goal.merge-returns-in_err-choices
merge-returns-in_err-choices t c =
    let s = c.args.policy.now.streams.now in
    let b = c.args.policy.now.both in
    let ps = c.args.formats.now in
    let parts = c.args.parts.now in
    let x = plain c.part-item.result in
    let rest = plains_of (map plain (drop (c.loop-part.part-index + 1) parts)) in
    let p = err_from_is_err_and c.from_residual-in_err-choices.result c.from_residual-in_err-choices.ensures.1 in
    let here = next_part parts c.loop-part.part-index c.part-item.result c.loop-part-test.true c.part-item.is in
    let small = rw here at c.loop-part.invariant.1 in
    rw (p.1, p.2) (fault_passes c.in_err-choices.field-0.0 _ _ _ _
    (λ is. merge_large s b ps (plains_of (map plain parts)) (any_here s b ps x rest _ small is))
    c.in_err-choices.ensures)

pub merge-loop-part-preserved : goal.merge-loop-part-preserved
merge-loop-part-preserved t c =
    let s = c.args.policy.now.streams.now in
    let b = c.args.policy.now.both in
    let ps = c.args.formats.now in
    let parts = c.args.parts.now in
    let x = plain c.part-item.result in
    let rest = plains_of (map plain (drop (c.loop-part.part-index + 1) parts)) in
    let here = next_part parts c.loop-part.part-index c.part-item.result c.loop-part-test.true c.part-item.is in
    let small = rw here at c.loop-part.invariant.1 in
    let is : c.deref.result.now ≡ den s b x ps = c.deref.ensures.value ∙ c.in_ok-choices.ensures.0 in (
      merge_more s b ps parts c.loop-part.part-index c.part-item.result c.loop-part.merging c.in_ok-merging-2.merging c.deref.result.now c.loop-part-test.true c.part-item.is is
          c.in_ok-merging-2.ensures c.loop-part.invariant.0,
      any_more s b ps x rest _ c.in_ok-choices.ensures.1 small,
    )

pub merge-returns : goal.merge-returns
merge-returns t c =
    let s = c.args.policy.now.streams.now in
    let whole : plains_of (map plain (take c.loop-part.part-index c.args.parts.now)) ≡ plains_of (map plain c.args.parts.now) =
    ap (λ (z : List Sel). plains_of (map plain z)) (take_all c.loop-part.part-index c.args.parts.now c.loop-part-test.false) in
    let none = no_part c.args.parts.now c.loop-part.part-index c.loop-part-test.false in
    merge_done s c.args.policy.now.both c.args.formats.now c.end.result (plains_of (map plain c.args.parts.now)) _ none c.loop-part.invariant.1
    (rw whole at (c.end.ensures s _ c.loop-part.invariant.0))
