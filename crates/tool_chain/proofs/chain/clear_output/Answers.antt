use Rattle.std.proofs.Common.{◌≡◌, rules, arith}
use Rattle.std.specs.Prelude.{Some}
use Rattle.std.proofs.lemmas.Grind.{common_steps}
use Rattle.tool_chain.specs.Jobs.{job_of, is_output}
use Rattle.tool_chain.proofs.StepLemmas.{spares_more, output_alone}
use Rattle.tool_chain.proofs.chain.clear_output.Goals as goal

pub returns-clause-spares : goal.returns-clause-spares
returns-clause-spares g c =
    let is : (job_of c.args.job.now).output ≡ Some c.as_str.result.now = first_of (search rules, grind (arith, common_steps)) in
    spares_more _ (is_output (job_of c.args.job.now)) (output_alone (job_of c.args.job.now) c.as_str.result.now is) c.clear.ensures.spares
