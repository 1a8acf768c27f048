use Rattle.std.proofs.Common.{List, ℕ, ◌∙◌, ap}
use Rattle.std.proofs.lemmas.Result.{err_from_is_err_and}
use Rattle.folder_steps.proofs.RefusalLemmas.{err_later_own}
use Rattle.archive_store.specs.Lines.{grown}
use Rattle.archive_store.proofs.AddingLemmas.{not_begun, adding}
use Rattle.archive_store.proofs.CauseLemmas.{add_refused}
use Rattle.archive_store.proofs.growing.write_with.Goals as goal

pub returns-in_err-bytes-clause-moments : goal.returns-in_err-bytes-clause-moments
returns-in_err-bytes-clause-moments g c t = not_begun c.args.name.now c.args.line.now (c.read_all.ensures.looked.same t)

pub returns-in_err-bytes-2-clause-moments : goal.returns-in_err-bytes-2-clause-moments
returns-in_err-bytes-2-clause-moments g c t = not_begun c.args.name.now c.args.line.now (c.read_all.ensures.looked.same t)

pub returns-in_err-bytes-clause-blames : goal.returns-in_err-bytes-clause-blames
returns-in_err-bytes-clause-blames g c =
    let p = err_from_is_err_and c.from_residual.result c.from_residual.ensures.1 in
    rw (p.1, p.2) (add_refused _ _ _ c.in_err-bytes.ensures.blames)

pub returns-in_err-bytes-2-clause-blames : goal.returns-in_err-bytes-2-clause-blames
returns-in_err-bytes-2-clause-blames g c =
    let p = err_from_is_err_and c.from_residual-in_err-bytes-2.result c.from_residual-in_err-bytes-2.ensures.1 in
    rw (p.1, p.2) c.in_ok-bytes.ensures.blames.calm

pub returns-in_err-put_in_place-clause-blames : goal.returns-in_err-put_in_place-clause-blames
returns-in_err-put_in_place-clause-blames g c =
    let p = err_from_is_err_and c.from_residual-in_err-put_in_place.result c.from_residual-in_err-put_in_place.ensures.1 in
    rw (p.1, p.2) (add_refused {T = Unit {0}} _ _ _ (err_later_own {U = Unit {0}} c.read_all.ensures.looked.stays c.in_ok-bytes.ensures.blames.calm c.in_err-put_in_place.ensures.blames))

pub returns-in_err-put_in_place-clause-moments : goal.returns-in_err-put_in_place-clause-moments
returns-in_err-put_in_place-clause-moments g c t =
    let t1 = c.put_in_place.ensures.kept.tells t in
    adding c.args.name.now c.args.line.now (c.read_all.ensures.looked.same t1) c.requires.spare
    (c.as_slice.ensures.value ∙ c.in_ok-bytes-2.ensures ∙ ap (λ (b : List ℕ). grown b c.args.line.now) (c.in_ok-bytes.ensures.told t1)) (c.put_in_place.ensures.moments t)
