use Rattle.sel_eval.proofs.MergingLemmas.{one_more}
use Rattle.sel_eval.proofs.merging.Merging.with.Goals as goal

pub returns : goal.returns
returns c = λ parts is.
    let more = one_more c.args.streams.now parts c.args.choices.now c.in_ok-rows.rows.items c.args.self c.saturating_mul-count.result is c.saturating_mul-count.ensures c.in_ok-rows.ensures in
    record { count = more.0; rows = more.1 }
