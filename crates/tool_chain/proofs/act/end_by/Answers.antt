use Rattle.std.proofs.Common.{◌≡◌, ◌∙◌, ap, sym, subst, true}
use Rattle.std.specs.Prelude.{Some, map}
use Rattle.std.proofs.lemmas.Result.{err_from_is_err_and}
use Rattle.folder_base.specs.Story.{Story}
use Rattle.folder_steps.proofs.RefusalLemmas.{own_err_as, err_later_own}
use Rattle.tool_chain.specs.Jobs.{job_of, leaves, OutputIs}
use Rattle.tool_chain.specs.Memory.{bytes_of, joined, EndsBy}
use Rattle.tool_chain.proofs.StepLemmas.{spares_both, spares_looked}
use Rattle.tool_chain.proofs.act.end_by.Goals as goal

pub returns-in_err-status-clause-blames : goal.returns-in_err-status-clause-blames
returns-in_err-status-clause-blames g c =
    let p = err_from_is_err_and c.from_residual.result c.from_residual.ensures.1 in
    rw (p.1, p.2) (own_err_as c.in_err-status.ensures.blames)

pub returns-in_err-left-clause-spares : goal.returns-in_err-left-clause-spares
returns-in_err-left-clause-spares g c = spares_both _ c.status_by.ensures.spares (spares_looked _ c.output_stands.ensures.looked)

pub returns-in_err-left-clause-blames : goal.returns-in_err-left-clause-blames
returns-in_err-left-clause-blames g c =
    let p = err_from_is_err_and c.from_residual-in_err-left.result c.from_residual-in_err-left.ensures.1 in
    rw (p.1, p.2) (err_later_own c.status_by.ensures.spares.stays c.in_ok-status.ensures.blames.calm c.in_err-left.ensures.blames)

pub returns-clause-spares : goal.returns-clause-spares
returns-clause-spares g c = spares_both _ c.status_by.ensures.spares (spares_looked _ c.output_stands.ensures.looked)

pub returns-clause-left : goal.returns-clause-left
returns-clause-left g c t = c.in_ok-left.ensures.told t ∙ ap (λ (s : Story). leaves (job_of c.args.job.now) s.now) (sym (c.output_stands.ensures.looked.same t))

pub returns-clause-made : goal.returns-clause-made
returns-clause-made g c t =
    subst (λ (s : Story). c.in_ok-status.status ≡ Some 0 → leaves (job_of c.args.job.now) s.now ≡ true → OutputIs (joined (map bytes_of c.args.inputs.now.items)) (job_of c.args.job.now) s.now)
    (sym (c.output_stands.ensures.looked.same t)) (c.in_ok-status.ensures.made (c.output_stands.ensures.looked.stays.tells t))

pub returns-clause-ends : goal.returns-clause-ends
returns-clause-ends g c t free =
    subst (λ (s : Story). EndsBy c.args.turn (job_of c.args.job.now) s.now c.in_ok-status.status) (sym (c.output_stands.ensures.looked.same t))
    (c.in_ok-status.ensures.ends (c.output_stands.ensures.looked.stays.tells t) free)
