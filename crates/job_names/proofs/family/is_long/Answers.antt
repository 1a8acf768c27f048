use Rattle.std.proofs.Common.{◌≡◌, false, ◌||◌, sym, ◌∙◌, rules, tests}
use Rattle.std.specs.List.{list_any}
use Rattle.std.proofs.lemmas.Iterator.{YieldsList-from_slice}
use Rattle.std.proofs.lemmas.Iterator.Search.{any_from_yields_List}
use Rattle.job_names.specs.Family.{is_longer}
use Rattle.job_names.proofs.family.is_long.Goals as goal

pub returns-else-any : goal.returns-else-any
returns-else-any c =
    let first : false ≡ list_any (is_longer 255) c.args.exact.now =
    sym c.if-any.false ∙ any_from_yields_List (is_longer 255) _ _ c.any.result c.any.ensures.ran (YieldsList-from_slice c.args.exact.now cc) (λ x b q k. search (rules, tests)) in
    any_from_yields_List (is_longer 225) _ _ c.any-else-any.result c.any-else-any.ensures.ran (YieldsList-from_slice c.args.components.now cc) (λ x b q k. search (rules, tests))
    ∙ (λ i. first i || list_any (is_longer 225) c.args.components.now)
