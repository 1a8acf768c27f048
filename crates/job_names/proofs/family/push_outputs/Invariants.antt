use Rattle.std.proofs.Common.{◌≡◌, ◌++◌, filter_map, map, take}
use Rattle.tool_chain.specs.Jobs.{job_of}
use Rattle.job_names.proofs.family.push_outputs.Given as goal

abbrev pub invariant-loop-step : goal.invariant-loop-step
invariant-loop-step l = l.names.items ≡ l.initial.names.items ++ filter_map (λ step. step.output) (map job_of (take l.step-index l.steps))
