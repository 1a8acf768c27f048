use Rattle.std.proofs.Common.{◌≡◌, ◌++◌, List, drop}
use Rattle.std.specs.Prelude.{option_map}
use Rattle.job_names.specs.Text.{Text}
use Rattle.job_plan.specs.Draft.{all_filled}
use Rattle.job_plan.proofs.filling.all_filled.Given as goal

abbrev pub invariant-loop-template : goal.invariant-loop-template
invariant-loop-template l =
    all_filled l.marks.na l.view l.templates
    ≡ option_map (λ (lines : List Text). l.texts.items ++ lines) (all_filled l.marks.na l.view (drop l.template-index l.templates))
