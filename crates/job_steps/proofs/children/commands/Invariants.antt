use Rattle.std.proofs.Common.{◌≡◌, ◌+◌, ◌++◌, map, drop}
use Rattle.tool_chain.specs.Jobs.{job_of}
use Rattle.job_steps.specs.Steps as spec
use Rattle.job_steps.specs.Views.{plain_step}
use Rattle.job_steps.proofs.children.commands.Given as goal

abbrev pub invariant-loop-place : goal.invariant-loop-place
invariant-loop-place l =
    map job_of l.all.items ++ spec.commands l.tool (map (λ f. f.now) l.parts) l.stem (l.place + 1) l.inputs.items (map plain_step (drop l.place l.steps))
    ≡ spec.commands l.tool (map (λ f. f.now) l.parts) l.stem 1 l.fetched (map plain_step l.steps)
