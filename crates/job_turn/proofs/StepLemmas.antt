-- The output of the last step, as the slice of the steps gives it.
use Rattle.std.proofs.Common.{◌≡◌, ℕ, ◌-◌, List, [], ◌∷◌, length, map, refl, ◌∙◌, ap, arith}
use Rattle.std.specs.List.{slice_get}
use Rattle.std.specs.Option.{option_map_or}
use Rattle.std.specs.Prelude.{Option, None}
use Rattle.folder_base.specs.Disk.{Name}
use Rattle.tool_chain.specs.Jobs.{job_of}
use Rattle.tool_chain.specs.declared.job.ToolJob.{ToolJob}
use Rattle.job_plan.specs.Laws.{last_output}

-- the output of a step that may be missing
abbrev pub output_in : Option ToolJob → Option Name
output_in step = option_map_or (λ (s : ToolJob). s.output) step None

last_from : (step : ToolJob) (steps : List ToolJob) → last_output (map job_of (step ∷ steps)) ≡ output_in (slice_get (step ∷ steps) (length steps))
last_from step [] = refl
last_from step (next ∷ steps) = last_from next steps

-- It is that of the step at the last place.
pub last_at : (steps : List ToolJob) → last_output (map job_of steps) ≡ output_in (slice_get steps (length steps - 1))
last_at [] = refl
last_at (step ∷ steps) =
    let at : length steps ≡ length (step ∷ steps) - 1 = omega arith in
    last_from step steps ∙ ap (λ (k : ℕ). output_in (slice_get (step ∷ steps) k)) at
