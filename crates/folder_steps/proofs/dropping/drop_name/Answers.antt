use Rattle.std.proofs.lemmas.Result.{err_from_is_err_and}
use Rattle.folder_steps.proofs.RemovalLemmas.{unchanged}
use Rattle.folder_steps.proofs.RefusalLemmas.{err_later}
use Rattle.folder_steps.proofs.dropping.drop_name.Goals as goal

pub returns-in_err-stands-clause-moments : goal.returns-in_err-stands-clause-moments
returns-in_err-stands-clause-moments g c t = unchanged _ (c.is_there.ensures.looked.same t)

pub returns-then-not-stands-clause-moments : goal.returns-then-not-stands-clause-moments
returns-then-not-stands-clause-moments g c t = unchanged _ (c.is_there.ensures.looked.same t)

pub returns-in_err-drop_standing-clause-blames : goal.returns-in_err-drop_standing-clause-blames
returns-in_err-drop_standing-clause-blames g c =
    let p = err_from_is_err_and c.from_residual-in_err-drop_standing.result c.from_residual-in_err-drop_standing.ensures.1 in
    rw (p.1, p.2) (err_later c.is_there.ensures.looked.stays c.in_ok-stands.ensures.blames.calm c.in_err-drop_standing.ensures.blames)
