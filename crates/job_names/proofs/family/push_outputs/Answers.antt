use Rattle.std.proofs.Common.{◌≡◌, ap, ◌∙◌, Some, None}
use Rattle.job_names.proofs.OutputLemmas.{output_pushed, output_none}
use Rattle.job_names.proofs.family.push_outputs.Goals as goal
use Rattle.job_names.proofs.family.push_outputs.Goals.{in-Some+in_ok-push_copy, in_default}

pub loop-step-preserved : goal.loop-step-preserved
loop-step-preserved c = elim c.match-step.branch [
  | in-Some+in_ok-push_copy w ↦
      let is : c.step-item.result.output ≡ Some w.as_str.result.now = cc in
      ap (λ v. v.items) w.names-is
      ∙ output_pushed c.args.steps.now c.loop-step.step-index c.step-item.result c.args.names.now.items c.loop-step.names.items w.push_copy.new.names.items w.as_str.result.now
      c.loop-step-test.true c.step-item.is is c.loop-step.invariant w.in_ok-push_copy.ensures
  | in_default w ↦
      let is : c.step-item.result.output ≡ None = cc in
      ap (λ v. v.items) w.names-is
      ∙ output_none c.args.steps.now c.loop-step.step-index c.step-item.result c.args.names.now.items c.loop-step.names.items c.loop-step-test.true c.step-item.is is c.loop-step.invariant
]
