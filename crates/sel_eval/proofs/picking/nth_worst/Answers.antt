use Rattle.std.proofs.Common.{◌<◌, ◌∙◌, arith, rules, tests}
use Rattle.std.proofs.lemmas.Iterator.Adapters.{YieldsList-from_rev_slice}
use Rattle.std.proofs.lemmas.Iterator.Consumers.{nth_from_yields_List, YieldsList-from_filter}
use Rattle.sel_eval.specs.Picks.{is_candidate}
use Rattle.sel_eval.proofs.PickLemmas.{nth_back}
use Rattle.sel_eval.proofs.picking.nth_worst.Goals as goal

pub returns : goal.returns
returns c =
    let some : 0 < c.args.n = omega arith in
    nth_from_yields_List _ _ _ c.nth.ensures.ran
    (YieldsList-from_filter _ (is_candidate c.args.candidates.both c.args.candidates.media c.args.candidates.star)
    (YieldsList-from_rev_slice c.args.formats.now cc) c.filter.ensures.closure (λ x b q k. search (rules, tests)))
    ∙ nth_back c.args.n _ some
