use Rattle.std.proofs.Common.{◌≡◌, ◌∙◌, sym, subst, rules, arith}
use Rattle.std.specs.Prelude.{Err}
use Rattle.std.proofs.lemmas.Grind.{common_steps}
use Rattle.std.proofs.lemmas.Result.{err_from_is_err_and}
use Rattle.text_base.specs.declared.faults.FolderFault.{FolderFault}
use Rattle.tool_chain.specs.Jobs.{job_of}
use Rattle.tool_chain.proofs.StepEnds.{end_uncleared, end_unstarted, end_unfed, end_bad, end_unseen, end_unleft, end_done}
use Rattle.tool_chain.proofs.chain.run_step.Goals as goal

pub returns-in_err-clear_output : goal.returns-in_err-clear_output
returns-in_err-clear_output g c =
    let p = err_from_is_err_and c.from_residual.result c.from_residual.ensures.1 in
    rw (p.1, p.2) (end_uncleared c.args.step (job_of c.args.job.now) _ c.in_err-clear_output.ensures.spares c.in_err-clear_output.ensures.blames)

pub returns-in-Err-Failed : goal.returns-in-Err-Failed
returns-in-Err-Failed g c =
    end_unstarted c.args.step (job_of c.args.job.now) c.requires.apart c.run.result c.clear_output.ensures.spares c.in_ok-clear_output.ensures.blames.calm c.in_ok-clear_output.ensures.free
    c.run.ensures.starts c.run.ensures.spares c.run.ensures.hides c.run.ensures.told c.run.ensures.works
    (subst (λ (f : FolderFault). c.run.result ≡ Err f) c.in-Err-Failed.field-0-is c.in-Err-Failed.is)

pub returns-in-Err-OutOfMemory : goal.returns-in-Err-OutOfMemory
returns-in-Err-OutOfMemory g c =
    end_unfed c.args.step (job_of c.args.job.now) c.requires.apart c.run.result c.clear_output.ensures.spares c.in_ok-clear_output.ensures.blames.calm c.in_ok-clear_output.ensures.free
    c.run.ensures.starts c.run.ensures.spares c.run.ensures.hides c.run.ensures.told c.run.ensures.works
    (subst (λ (f : FolderFault). c.run.result ≡ Err f) c.in-Err-OutOfMemory.field-0-is c.in-Err-OutOfMemory.is)

pub returns-then-status-ne0 : goal.returns-then-status-ne0
returns-then-status-ne0 g c =
    end_bad c.args.step (job_of c.args.job.now) c.requires.apart c.run.result c.clear_output.ensures.spares c.in_ok-clear_output.ensures.blames.calm c.in_ok-clear_output.ensures.free
    c.run.ensures.starts c.run.ensures.spares c.run.ensures.hides c.run.ensures.told c.run.ensures.works c.in-Ok.status c.in-Ok.is (first_of (search rules, grind (arith, common_steps)))

pub returns-in_err-lacks_output : goal.returns-in_err-lacks_output
returns-in_err-lacks_output g c =
    let p = err_from_is_err_and c.from_residual-in_err-lacks_output.result c.from_residual-in_err-lacks_output.ensures.1 in
    rw (p.1, p.2) (end_unseen c.args.step (job_of c.args.job.now) c.requires.apart c.run.result c.clear_output.ensures.spares c.in_ok-clear_output.ensures.blames.calm c.in_ok-clear_output.ensures.free
    c.run.ensures.starts c.run.ensures.spares c.run.ensures.hides c.run.ensures.told c.run.ensures.works c.in-Ok.status c.in-Ok.is (omega arith) c.lacks_output.ensures.looked _ c.in_err-lacks_output.ensures.blames)

pub returns-then-branch : goal.returns-then-branch
returns-then-branch g c =
    end_unleft c.args.step (job_of c.args.job.now) c.requires.apart c.run.result c.clear_output.ensures.spares c.in_ok-clear_output.ensures.blames.calm c.in_ok-clear_output.ensures.free
    c.run.ensures.starts c.run.ensures.spares c.run.ensures.hides c.run.ensures.told c.run.ensures.works c.in-Ok.status c.in-Ok.is (omega arith) c.lacks_output.ensures.looked c.in_ok-lacks_output.ensures.blames.calm
    (λ t. sym (c.in_ok-lacks_output.ensures.told t) ∙ c.if-branch.true)

pub returns : goal.returns
returns g c =
    end_done c.args.step (job_of c.args.job.now) c.requires.apart c.run.result c.clear_output.ensures.spares c.in_ok-clear_output.ensures.blames.calm c.in_ok-clear_output.ensures.free
    c.run.ensures.starts c.run.ensures.spares c.run.ensures.hides c.run.ensures.told c.run.ensures.works c.in-Ok.status c.in-Ok.is (omega arith) c.lacks_output.ensures.looked c.in_ok-lacks_output.ensures.blames.calm
    (λ t. sym (c.in_ok-lacks_output.ensures.told t) ∙ c.if-branch.false)
