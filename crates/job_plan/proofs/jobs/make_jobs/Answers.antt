use Rattle.std.proofs.Common.{◌∙◌, ℕ, List, [], Option, map, ap, subst}
use Rattle.std.proofs.lemmas.Result.{IfOk-weaker}
use Rattle.job_plan.specs.Jobs.{finished}
use Rattle.info_item.specs.Item.{Item}
use Rattle.job_plan.specs.Passes.{AreEntries, all_met, all_settled}
use Rattle.job_plan.specs.Views.{plain_plan, plain_drafted, plain_entry}
use Rattle.job_plan.specs.declared.draft.Drafted.{Drafted}
use Rattle.job_plan.proofs.EntryLemmas.{jobs_are}
use Rattle.job_plan.proofs.jobs.make_jobs.Goals as goal

pub returns-clause-jobs : goal.returns-clause-jobs
returns-clause-jobs c =
    let entries = map plain_drafted c.in_ok-drafts.drafts.items in
    let are : AreEntries (plain_plan c.args.options.now) c.args.items.now.items entries =
    subst (λ (l : List Item). AreEntries (plain_plan c.args.options.now) l entries) c.deref.ensures.value c.in_ok-drafts.ensures.entries in
    IfOk-weaker c.finished.result _ _
    (λ v made. jobs_are (plain_plan c.args.options.now) c.args.items.now.items entries (map plain_entry v.items) are
    (made ∙ ap (λ (l : List Item). map (finished l) (all_settled entries c.deref-4.result.now)) c.deref-3.ensures.value
    ∙ ap (λ (l : List (Option ℕ)). map (finished c.args.items.now.items) (all_settled entries l)) (c.deref-4.ensures.value ∙ c.in_ok-met.ensures
    ∙ ap (λ (l : List Drafted). all_met [] (map plain_drafted l)) c.deref-2.ensures.value))) c.finished.ensures.entries
