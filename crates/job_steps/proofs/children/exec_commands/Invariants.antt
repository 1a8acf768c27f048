use Rattle.std.proofs.Common.{◌≡◌, map, take}
use Rattle.tool_chain.specs.Jobs.{job_of}
use Rattle.job_steps.specs.Steps.{exec_command}
use Rattle.job_steps.proofs.children.exec_commands.Given as goal

abbrev pub invariant-loop-line : goal.invariant-loop-line
invariant-loop-line l = map job_of l.all.items ≡ map (exec_command l.final_name) (take l.line-index l.lines)
