use Rattle.std.proofs.Common.{◌≡◌, ◌∙◌, IfOk, ap, subst}
use Rattle.job_names.specs.Text.{Text}
use Rattle.job_names.specs.Naming.{with_ext}
use Rattle.job_plan.proofs.DraftLemmas.{final_behind}
use Rattle.job_plan.proofs.drafting.final_name.Goals as goal

pub returns-in-Some : goal.returns-in-Some
returns-in-Some c =
    subst (λ (name : Text). IfOk c.with_ext.result (λ t. t ≡ name))
    (ap (λ (stem : Text). with_ext stem c.in-Some.step.now.ext.now) c.as_str.ensures ∙ final_behind c.args.name.now c.args.steps.now c.in-Some.step.now c.in-Some.ensures.value)
    c.with_ext.ensures
