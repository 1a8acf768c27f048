use Rattle.std.proofs.Common.{◌∙◌, map, sym, arith}
use Rattle.std.proofs.lemmas.Bool.{eqb-true, eqb-false}
use Rattle.std.proofs.lemmas.List.{length-map}
use Rattle.std.proofs.lemmas.Result.{on_ok_weaker}
use Rattle.sel_eval.specs.Answer.{plain_combo}
use Rattle.job_plan.specs.Views.{plain_drafting}
use Rattle.job_plan.proofs.EntryLemmas.{adds_some, adds_none}
use Rattle.job_plan.proofs.jobs.add_some.Goals as goal

pub returns-then-is_empty-clause-entries : goal.returns-then-is_empty-clause-entries
returns-then-is_empty-clause-entries c =
    on_ok_weaker c.push_fault.result (adds_none (plain_drafting c.args.drafting.now) c.args.place c.args.item.now (map plain_combo c.args.choices.items) _ _ (omega (arith, length-map c.args.choices.items plain_combo, eqb-true _ _ (sym c.is_empty.ensures ∙ c.if-is_empty.true)))) c.push_fault.ensures.entries

pub returns-clause-entries : goal.returns-clause-entries
returns-clause-entries c =
    on_ok_weaker c.add_choices.result (adds_some (plain_drafting c.args.drafting.now) c.args.place c.args.item.now (map plain_combo c.args.choices.items) _ _ (λ none. eqb-false _ _ (sym c.is_empty.ensures ∙ c.if-is_empty.false) (c.args.choices.ok.0 ∙ sym (length-map c.args.choices.items plain_combo) ∙ none))) c.add_choices.ensures.entries
