use Rattle.std.proofs.Common.{◌∙◌, ap, fold}
use Rattle.std.proofs.lemmas.List.{nil_from_length}
use Rattle.sel_eval.specs.Keep.{kept_with}
use Rattle.sel_eval.proofs.MergingLemmas.{rows_push, rows_end, rows_none}
use Rattle.sel_eval.proofs.merging.add_rows.Goals as goal

pub returns-in_default : goal.returns-in_default
returns-in_default c = rows_none c.args.streams.now c.args.row c.args.all.now.items c.args.choices.now (nil_from_length _ c.in_default.ensures.cases)

pub loop-choice-preserved : goal.loop-choice-preserved
loop-choice-preserved c =
    c.in_ok-push.ensures.items
    ∙ rows_push c.args.streams.now c.args.row c.args.all.now.items c.loop-choice.all.items _ c.loop-choice.choice-index c.choice-item.result c.in_ok-with_choice.field-0
    c.loop-choice-test.true c.choice-item.is c.in_ok-with_choice.ensures c.loop-choice.invariant

pub returns : goal.returns
returns c =
    let f = fold (kept_with c.args.streams.now) c.args.row in
    c.in_ok-push-2.ensures.items
    ∙ rows_end c.args.streams.now c.args.row c.args.all.now.items c.loop-choice.all.items c.in-Some.others.now c.args.choices.now c.loop-choice.choice-index c.in-Some.last.now c.merge.new.self
    c.loop-choice-test.false c.in-Some.ensures.cases.0 (c.in_ok-merge.ensures ∙ ap f c.parts.ensures) c.loop-choice.invariant
