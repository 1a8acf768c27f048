use Rattle.std.proofs.Common.{◌<◌, ◌∷◌, [], ◌++◌, length, map, take_all, ap, sym, ◌∙◌, arith, Bor}
use Rattle.std.specs.List.{cons_option, filter_map}
use Rattle.info_tree.specs.Tree.{Tree as Plain}
use Rattle.info_tree.specs.Plain.{plain}
use Rattle.info_tree.specs.declared.tree.Tree.{Tree}
use Rattle.info_item.specs.Found.{tree_of}
use Rattle.tpl_lang.specs.declared.key.Key.{Key}
use Rattle.tpl_eval.specs.Path as spec
use Rattle.tpl_eval.specs.Slice.{sliced as sliced_of}
use Rattle.tpl_eval.proofs.PathLemmas.{of_slice, kept_more, in_list}
use Rattle.tpl_eval.proofs.path.+keys.Goals as goal

pub list_slice-loop-item-preserved : goal.list_slice-loop-item-preserved
list_slice-loop-item-preserved t c =
    let seen : Bor Tree → Plain = λ t'. plain t'.now in
    let less : c.loop-item.item-index < length c.deref-item-items.result.now = omega (arith, c.loop-item-test.true) in
    kept_more seen (spec.at_keys c.args.keys.now) c.loop-item.told c.push_found.new.told c.deref-item-items.result.now c.loop-item.item-index c.item-item.result less c.item-item.is
    c.loop-item.invariant (c.in_ok-push_found.ensures ∙ ap (λ o. c.loop-item.told ++ cons_option o []) c.in_ok-at_keys.ensures)

pub list_slice-returns : goal.list_slice-returns
list_slice-returns t c =
    let seen : Bor Tree → Plain = λ t'. plain t'.now in
    let whole = take_all c.loop-item.item-index c.deref-item-items.result.now (omega (arith, c.loop-item-test.false)) in
    let same = c.deref-item-items.ensures.value ∙ c.in_ok-kept.ensures ∙ ap (sliced_of c.args.slice.now) c.deref.ensures.value in
    of_slice seen (spec.at_keys c.args.keys.now) c.args.slice.now c.in_ok-items.items.items c.args.list.now c.loop-item.told c.in_ok-items.ensures
    (c.loop-item.invariant ∙ ap (λ l. filter_map (spec.at_keys c.args.keys.now) (map seen l)) (whole ∙ same))

pub slice_step-returns-in-List : goal.slice_step-returns-in-List
slice_step-returns-in-List t c =
    ap (λ (k : Key). spec.at_keys (k ∷ c.args.rest.now) (tree_of c.args.found)) c.requires
    ∙ in_list c.args.slice.now c.args.rest.now c.in-List.list (tree_of c.args.found) (plain c.in_ok-list_slice-in-List.field-0) (sym c.tree.ensures ∙ ap plain c.in-List.is) c.in_ok-list_slice-in-List.ensures
