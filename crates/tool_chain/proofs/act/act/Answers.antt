use Rattle.std.proofs.Common.{◌≡◌, rules, arith}
use Rattle.std.specs.Prelude.{Some}
use Rattle.std.proofs.lemmas.Grind.{common_steps}
use Rattle.std.proofs.lemmas.Result.{err_from_is_err_and}
use Rattle.folder_steps.proofs.RefusalLemmas.{own_err, own_err_as}
use Rattle.tool_chain.specs.Jobs.{job_of, is_output}
use Rattle.tool_chain.proofs.StepLemmas.{spares_looked, spares_more, output_alone}
use Rattle.tool_chain.proofs.act.act.Goals as goal

pub returns-in_err-stands-clause-spares : goal.returns-in_err-stands-clause-spares
returns-in_err-stands-clause-spares g c = spares_looked _ c.is_there.ensures.looked

pub returns-then-stands-clause-spares : goal.returns-then-stands-clause-spares
returns-then-stands-clause-spares g c = spares_looked _ c.is_there.ensures.looked

pub returns-else-stands-clause-spares : goal.returns-else-stands-clause-spares
returns-else-stands-clause-spares g c = spares_looked _ c.is_there.ensures.looked

pub returns-in_err-make_output-clause-spares : goal.returns-in_err-make_output-clause-spares
returns-in_err-make_output-clause-spares g c =
    let is : (job_of c.args.job.now).output ≡ Some c.as_str-2.result.now = first_of (search rules, grind (arith, common_steps)) in
    spares_more _ (is_output (job_of c.args.job.now)) (output_alone (job_of c.args.job.now) c.as_str-2.result.now is) c.make_output.ensures.spares

pub returns-then-branch-clause-spares : goal.returns-then-branch-clause-spares
returns-then-branch-clause-spares g c =
    let is : (job_of c.args.job.now).output ≡ Some c.as_str-2.result.now = first_of (search rules, grind (arith, common_steps)) in
    spares_more _ (is_output (job_of c.args.job.now)) (output_alone (job_of c.args.job.now) c.as_str-2.result.now is) c.make_output.ensures.spares

pub returns-else-branch-clause-spares : goal.returns-else-branch-clause-spares
returns-else-branch-clause-spares g c =
    let is : (job_of c.args.job.now).output ≡ Some c.as_str-2.result.now = first_of (search rules, grind (arith, common_steps)) in
    spares_more _ (is_output (job_of c.args.job.now)) (output_alone (job_of c.args.job.now) c.as_str-2.result.now is) c.make_output.ensures.spares

pub returns-in_err-stands-clause-blames : goal.returns-in_err-stands-clause-blames
returns-in_err-stands-clause-blames g c =
    let p = err_from_is_err_and c.from_residual.result c.from_residual.ensures.1 in
    rw (p.1, p.2) (own_err c.in_err-stands.ensures.blames)

pub returns-in_err-make_output-clause-blames : goal.returns-in_err-make_output-clause-blames
returns-in_err-make_output-clause-blames g c =
    let p = err_from_is_err_and c.from_residual-in_err-make_output.result c.from_residual-in_err-make_output.ensures.1 in
    rw (p.1, p.2) (own_err_as c.in_err-make_output.ensures.blames)
