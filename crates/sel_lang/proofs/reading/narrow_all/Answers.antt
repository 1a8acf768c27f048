use Rattle.std.proofs.Common.{◌≡◌, ◌∙◌, ◌∷◌, [], List, sym, ap, map, rules, arith}
use Rattle.std.proofs.lemmas.Grind.{common_steps}
use Rattle.std.specs.Vec.Iter.{into_iter_items}
use Rattle.sel_lang.specs.Plain.{Plain, plain_filter, narrowed}
use Rattle.sel_lang.specs.View.{plain}
use Rattle.sel_lang.specs.declared.filter.Filter.{Filter}
use Rattle.sel_lang.proofs.reading.narrow_all.Goals as goal

pub loop-filter-preserved : goal.loop-filter-preserved
loop-filter-preserved c =
    let filter : Filter = c.in-Some.filter in
    let later : List Filter = into_iter_items c.next.new.self in
    let next_is : into_iter_items c.loop-filter.filter-iterator ≡ filter ∷ later = first_of (search rules, grind (arith, common_steps)) in
    ap (λ (s : Plain). narrowed s (map plain_filter later)) c.in_ok-outer.ensures
    ∙ ap (λ (fs : List Filter). narrowed (plain c.loop-filter.sel) (map plain_filter fs)) (sym next_is)
    ∙ c.loop-filter.invariant

pub returns : goal.returns
returns c =
    let ended : into_iter_items c.loop-filter.filter-iterator ≡ [] = first_of (search rules, grind (arith, common_steps)) in
    let begun : into_iter_items c.into_iter-filter-iterator.result ≡ c.args.filters.items = first_of (search rules, grind (arith, common_steps)) in
    sym (ap (λ (fs : List Filter). narrowed (plain c.loop-filter.sel) (map plain_filter fs)) ended)
    ∙ c.loop-filter.invariant
    ∙ ap (λ (fs : List Filter). narrowed (plain c.args.inner) (map plain_filter fs)) begun
