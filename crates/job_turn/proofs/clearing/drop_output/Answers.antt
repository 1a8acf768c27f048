use Rattle.std.proofs.Common.{◌≡◌, rules, arith}
use Rattle.std.specs.Prelude.{Some, None, Err, Ok}
use Rattle.std.proofs.lemmas.Grind.{common_steps}
use Rattle.std.proofs.lemmas.Result.{err_from_is_err_and}
use Rattle.folder_base.specs.declared.store_fault.StoreFault.{StoreFault}
use Rattle.folder_steps.proofs.RefusalLemmas.{err_as}
use Rattle.tool_chain.specs.Jobs.{job_of, is_output}
use Rattle.job_turn.proofs.ClearLemmas.{clears_none, clears_one, output_is, output_none}
use Rattle.job_turn.proofs.clearing.drop_output.Goals as goal

pub returns-in_default-clause-cleared : goal.returns-in_default-clause-cleared
returns-in_default-clause-cleared g c =
    let is : (job_of c.args.step.now).output ≡ None = first_of (search rules, grind (arith, common_steps)) in
    clears_none {E = StoreFault} (is_output (job_of c.args.step.now)) (g.F.Folder.world c.args.folder.now) (output_none (job_of c.args.step.now) is)

pub returns-in_err-drop_name-clause-cleared : goal.returns-in_err-drop_name-clause-cleared
returns-in_err-drop_name-clause-cleared g c =
    let p = err_from_is_err_and c.from_residual.result c.from_residual.ensures.1 in
    let is : (job_of c.args.step.now).output ≡ Some c.as_str.result.now = first_of (search rules, grind (arith, common_steps)) in
    rw (p.1, p.2) (clears_one {E = StoreFault} c.as_str.result.now (is_output (job_of c.args.step.now)) (Err c.in_err-drop_name.field-0.0) (output_is (job_of c.args.step.now) c.as_str.result.now is) c.drop_name.ensures.kept c.drop_name.ensures.moments (λ t. tt))

pub returns-in_err-drop_name-clause-blames : goal.returns-in_err-drop_name-clause-blames
returns-in_err-drop_name-clause-blames g c =
    let p = err_from_is_err_and c.from_residual.result c.from_residual.ensures.1 in
    rw (p.1, p.2) (err_as c.in_err-drop_name.ensures.blames)

pub returns-clause-cleared : goal.returns-clause-cleared
returns-clause-cleared g c =
    let is : (job_of c.args.step.now).output ≡ Some c.as_str.result.now = first_of (search rules, grind (arith, common_steps)) in
    clears_one {E = StoreFault} c.as_str.result.now (is_output (job_of c.args.step.now)) (Ok tt) (output_is (job_of c.args.step.now) c.as_str.result.now is) c.drop_name.ensures.kept c.drop_name.ensures.moments c.in_ok-drop_name.ensures.gone
