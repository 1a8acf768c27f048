use Rattle.std.proofs.lemmas.Result.{err_from_is_err_and}
use Rattle.folder_steps.proofs.RefusalLemmas.{own_err, own_err_later}
use Rattle.tool_chain.proofs.child.read_file.Goals as goal

pub returns-in_err-is_there-clause-blames : goal.returns-in_err-is_there-clause-blames
returns-in_err-is_there-clause-blames g c =
    let p = err_from_is_err_and c.from_residual.result c.from_residual.ensures.1 in
    rw (p.1, p.2) (own_err c.in_err-is_there.ensures.blames)

pub returns-in_err-read_all-clause-blames : goal.returns-in_err-read_all-clause-blames
returns-in_err-read_all-clause-blames g c =
    let p = err_from_is_err_and c.from_residual-in_err-read_all.result c.from_residual-in_err-read_all.ensures.1 in
    rw (p.1, p.2) (own_err_later c.is_there.ensures.looked.stays c.in_ok-is_there.ensures.blames.calm c.in_err-read_all.ensures.blames)
