use Rattle.std.proofs.Common.{ap, ◌∙◌, rules, tests, Bor, List, ℕ}
use Rattle.std.proofs.lemmas.Iterator.{YieldsList-from_slice}
use Rattle.std.proofs.lemmas.Iterator.Search.{find_from_yields_List}
use Rattle.sel_eval.specs.Ext.{takes_all}
use Rattle.sel_eval.proofs.ExtLemmas.{fitting_is, unwrap_now}
use Rattle.sel_eval.proofs.ext.container_of.Goals as goal

pub returns-in-Some : goal.returns-in-Some
returns-in-Some c =
    let listed = c.args.streams.now.merge_ext.items in
    let found = find_from_yields_List (takes_all c.args.parts.now) _ _ c.find.result c.find.ensures.ran (YieldsList-from_slice listed cc) (λ x b q k. search (rules, tests)) in
    c.as_str.ensures ∙ (ap (λ (x : Bor (List ℕ)). x.now) c.unwrap_or.ensures ∙ (unwrap_now c.find.result c.in-Some.last
    ∙ fitting_is c.args.parts.now listed c.in-Some.last.now _ (search rules) found))
