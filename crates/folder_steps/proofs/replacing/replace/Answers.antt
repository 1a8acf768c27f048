use Rattle.std.proofs.Common.{◌∙◌, inl}
use Rattle.std.proofs.lemmas.Result.{err_from_is_err_and}
use Rattle.folder_base.proofs.Moments.{weaker}
use Rattle.keep_store.specs.TookLaws.{stays_both}
use Rattle.folder_steps.proofs.RefusalLemmas.{later, err_later}
use Rattle.folder_steps.proofs.NewFileLemmas.{grown_loose, new_stands}
use Rattle.folder_steps.proofs.replacing.replace.Goals as goal

pub put_behind-requires-clause-stands : goal.put_behind-requires-clause-stands
put_behind-requires-clause-stands g c t = new_stands c.args.spare.now _ _ _ (c.in_ok-make.ensures.made t)

pub publish_new-requires-clause-stands : goal.publish_new-requires-clause-stands
publish_new-requires-clause-stands g c t =
    new_stands c.args.spare.now _ _ _ (c.in_ok-put_behind.ensures.put t _ _ (c.in_ok-make.ensures.made (c.put_behind.ensures.kept.tells t)))

pub returns-in_err-make-clause-moments : goal.returns-in_err-make-clause-moments
returns-in_err-make-clause-moments g c t = weaker (c.make.ensures.moments t) (λ image h. inl h)

pub returns-in_err-put_behind-clause-moments : goal.returns-in_err-put_behind-clause-moments
returns-in_err-put_behind-clause-moments g c t =
    let t1 = c.put_behind.ensures.kept.tells t in
    weaker (grown_loose c.args.spare.now c.args.bytes.now (c.put_behind.ensures.grown t) _ _ (c.in_ok-make.ensures.made t1) (c.make.ensures.moments t1)) (λ image h. inl h)

pub returns-clause-moments : goal.returns-clause-moments
returns-clause-moments g c t =
    let t2 = c.publish_new.ensures.kept.tells t in
    let t1 = c.put_behind.ensures.kept.tells t2 in
    let made = c.in_ok-make.ensures.made t1 in
    let first = grown_loose c.args.spare.now c.args.bytes.now (c.put_behind.ensures.grown t2) _ _ made (c.make.ensures.moments t1) in
    c.publish_new.ensures.moments t _ _ (c.in_ok-put_behind.ensures.put t2 _ _ made) first

pub returns-clause-done : goal.returns-clause-done
returns-clause-done g c t =
    let t2 = c.publish_new.ensures.kept.tells t in
    let t1 = c.put_behind.ensures.kept.tells t2 in
    c.publish_new.ensures.done t _ _ (c.in_ok-put_behind.ensures.put t2 _ _ (c.in_ok-make.ensures.made t1))

pub returns-in_err-put_behind-clause-blames : goal.returns-in_err-put_behind-clause-blames
returns-in_err-put_behind-clause-blames g c =
    let p = err_from_is_err_and c.from_residual-in_err-put_behind.result c.from_residual-in_err-put_behind.ensures.1 in
    rw (p.1, p.2) (err_later c.make.ensures.kept c.in_ok-make.ensures.blames.calm c.in_err-put_behind.ensures.blames)

pub returns-clause-blames : goal.returns-clause-blames
returns-clause-blames g c =
    later _ c.publish_new.result (stays_both c.make.ensures.kept c.put_behind.ensures.kept) (c.in_ok-put_behind.ensures.blames.calm ∙ c.in_ok-make.ensures.blames.calm) c.publish_new.ensures.blames
