use Rattle.std.proofs.Common.{◌≡◌, ◌++◌, map, drop}
use Rattle.job_steps.specs.Steps.{stream_args}
use Rattle.job_steps.proofs.args.push_streams.Given as goal

abbrev pub invariant-loop-input : goal.invariant-loop-input
invariant-loop-input l =
    l.args.items ++ stream_args l.input (map (λ f. f.now) (drop l.input l.parts)) ≡ l.initial.args.items ++ stream_args 0 (map (λ f. f.now) l.parts)
