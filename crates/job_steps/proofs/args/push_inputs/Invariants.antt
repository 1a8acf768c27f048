use Rattle.std.proofs.Common.{◌≡◌, ◌++◌, flat_map, take}
use Rattle.job_steps.specs.Steps.{input_args}
use Rattle.job_steps.proofs.args.push_inputs.Given as goal

abbrev pub invariant-loop-input : goal.invariant-loop-input
invariant-loop-input l = l.args.items ≡ l.initial.args.items ++ flat_map input_args (take l.input-index l.inputs)
