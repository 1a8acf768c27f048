use Rattle.std.proofs.lemmas.Result.{err_from_is_err_and}
use Rattle.folder_steps.proofs.RefusalLemmas.{own_err_as}
use Rattle.tool_chain.proofs.act.status_by.Goals as goal

pub returns-in_err-status-clause-blames : goal.returns-in_err-status-clause-blames
returns-in_err-status-clause-blames g c =
    let p = err_from_is_err_and c.from_residual.result c.from_residual.ensures.1 in
    rw (p.1, p.2) (own_err_as c.in_err-status.ensures.blames)
