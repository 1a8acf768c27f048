use Rattle.std.proofs.Common.{◌≤◌, arith, rules}
use Rattle.std.proofs.lemmas.Fn.{filter_same}
use Rattle.sel_eval.specs.Picks.{is_choice}
use Rattle.sel_eval.proofs.MergingLemmas.{merged_is}
use Rattle.sel_eval.proofs.merging.Merging.end.Goals as goal

pub returns : goal.returns
returns c = λ streams parts is.
    let few : c.args.self.count ≤ 10000 = omega arith in
    merged_is streams parts c.args.self _ is few (filter_same _ is_choice _ (λ x b f k. search rules) _ _ c.retain.ensures.filtered)
