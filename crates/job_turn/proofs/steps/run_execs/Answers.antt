use Rattle.std.proofs.Common.{map}
use Rattle.tool_chain.specs.Jobs.{job_of}
use Rattle.job_turn.proofs.StopLemmas.{silent_apart}
use Rattle.job_turn.proofs.steps.run_execs.Goals as goal

pub run_chain-requires-clause-apart : goal.run_chain-requires-clause-apart
run_chain-requires-clause-apart g c = silent_apart (map job_of c.args.execs.now.items) c.requires.silent

pub returns : goal.returns
returns g c = (c.run_chain.result, (c.run_chain.ensures, c.chain_answer.ensures))
