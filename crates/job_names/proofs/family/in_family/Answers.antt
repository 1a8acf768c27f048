use Rattle.std.proofs.Common.{◌≡◌, false, ◌||◌, sym, ◌∙◌, rules, tests}
use Rattle.std.specs.Prelude.{bytes_eq}
use Rattle.std.specs.List.{list_any}
use Rattle.std.proofs.lemmas.Iterator.{YieldsList-from_slice}
use Rattle.std.proofs.lemmas.Iterator.Search.{any_from_yields_List}
use Rattle.job_names.specs.Family.{is_piece_of}
use Rattle.job_names.proofs.family.in_family.Goals as goal

pub returns-else-any : goal.returns-else-any
returns-else-any c =
    let first : false ≡ list_any (bytes_eq c.args.name.now) c.args.exact.now =
    sym c.if-any.false ∙ any_from_yields_List (bytes_eq c.args.name.now) _ _ c.any.result c.any.ensures.ran (YieldsList-from_slice c.args.exact.now cc) (λ x b q k. search (rules, tests)) in
    c.is_piece_among.ensures ∙ (λ i. first i || is_piece_of c.args.components.now c.args.name.now)
