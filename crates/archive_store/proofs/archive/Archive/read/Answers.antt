use Rattle.std.proofs.Common.{◌∙◌}
use Rattle.std.proofs.lemmas.Result.{err_from_is_err_and}
use Rattle.archive_store.proofs.CauseLemmas.{read_refused, bytes_refused}
use Rattle.archive_store.proofs.archive.Archive.read.Goals as goal

pub returns-in_err-bytes-clause-blames : goal.returns-in_err-bytes-clause-blames
returns-in_err-bytes-clause-blames g c =
    let p = err_from_is_err_and c.from_residual.result c.from_residual.ensures.1 in
    rw (p.1, p.2) (read_refused c.args.name.now _ _ _ c.in_err-bytes.ensures.blames)

pub returns-in_err-lines-clause-blames : goal.returns-in_err-lines-clause-blames
returns-in_err-lines-clause-blames g c =
    let p = err_from_is_err_and c.from_residual-in_err-lines.result c.from_residual-in_err-lines.ensures.1 in
    rw (p.1, p.2) (bytes_refused c.args.name.now _ _ _ _ c.in_ok-bytes.ensures.blames.calm (λ t. c.as_slice.ensures.value ∙ c.in_ok-bytes.ensures.told t) c.in_err-lines.ensures.refused)
