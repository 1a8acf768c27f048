use Rattle.std.proofs.Common.{◌≡◌, ◌∙◌, [], Bool, map, refl, ap, rules}
use Rattle.std.specs.Prelude.{Some}
use Rattle.std.proofs.lemmas.Result.{err_from_is_err_and}
use Rattle.text_base.specs.declared.faults.FolderCall.TheVariants.{Create}
use Rattle.folder_base.specs.Disk.{Bytes}
use Rattle.folder_base.specs.Story.{Story}
use Rattle.keep_store.specs.TookLaws.{stays_both}
use Rattle.keep_store.proofs.Refusals.{did_whole, calm_ok}
use Rattle.folder_steps.proofs.RefusalLemmas.{refused, own_err, own_none, err_later_own}
use Rattle.folder_steps.proofs.NewFileLemmas.{is_made}
use Rattle.tool_chain.specs.Memory.{bytes_of, joined}
use Rattle.tool_chain.proofs.StepLemmas.{spares_both, spares_looked, stays_by, seen_free}
use Rattle.tool_chain.proofs.MemoryLemmas.{spares_created, spares_grown, new_reads}
use Rattle.tool_chain.proofs.child.make_output.Goals as goal

pub returns-in_err-is_there-clause-spares : goal.returns-in_err-is_there-clause-spares
returns-in_err-is_there-clause-spares g c = spares_looked _ c.is_there.ensures.looked

pub returns-then-branch-clause-spares : goal.returns-then-branch-clause-spares
returns-then-branch-clause-spares g c = spares_looked _ c.is_there.ensures.looked

pub returns-in_default-clause-spares : goal.returns-in_default-clause-spares
returns-in_default-clause-spares g c = spares_looked _ c.is_there.ensures.looked

pub returns-in-Err-clause-spares : goal.returns-in-Err-clause-spares
returns-in-Err-clause-spares g c =
    spares_both _ (spares_looked _ c.is_there.ensures.looked) (spares_created c.args.name.now c.create.result (stays_by c.create.ensures.cause) c.create.ensures.told)

pub returns-in_err-put_behind-clause-spares : goal.returns-in_err-put_behind-clause-spares
returns-in_err-put_behind-clause-spares g c =
    spares_both _ (spares_looked _ c.is_there.ensures.looked)
    (spares_grown c.args.name.now c.as_slice.result.now (spares_created c.args.name.now c.create.result (stays_by c.create.ensures.cause) c.create.ensures.told)
    c.put_behind.ensures.kept (λ t. is_made c.args.name.now (c.in_default-create.ensures.told t).done) c.put_behind.ensures.grown)

pub returns-clause-spares : goal.returns-clause-spares
returns-clause-spares g c =
    spares_both _ (spares_looked _ c.is_there.ensures.looked)
    (spares_grown c.args.name.now c.as_slice.result.now (spares_created c.args.name.now c.create.result (stays_by c.create.ensures.cause) c.create.ensures.told)
    c.put_behind.ensures.kept (λ t. is_made c.args.name.now (c.in_default-create.ensures.told t).done) c.put_behind.ensures.grown)

pub returns-clause-made : goal.returns-clause-made
returns-clause-made g c = λ t _.
    let is : c.as_slice.result.now ≡ joined (map bytes_of c.args.inputs.now.items) = search rules in
    new_reads c.args.name.now c.as_slice.result.now _ _
    (c.in_ok-put_behind.ensures.put t _ [] (is_made c.args.name.now (c.in_default-create.ensures.told (c.put_behind.ensures.kept.tells t)).done))
    ∙ ap (λ (b : Bytes). Some b) is

pub returns-in_err-is_there-clause-blames : goal.returns-in_err-is_there-clause-blames
returns-in_err-is_there-clause-blames g c =
    let p = err_from_is_err_and c.from_residual.result c.from_residual.ensures.1 in
    rw (p.1, p.2) (own_err c.in_err-is_there.ensures.blames)

pub returns-in_default-clause-blames : goal.returns-in_default-clause-blames
returns-in_default-clause-blames g c = own_none c.in_ok-is_there.ensures.blames.calm

pub returns-in-Err-clause-blames : goal.returns-in-Err-clause-blames
returns-in-Err-clause-blames g c =
    let old = g.F.Folder.world c.is_there.new.folder in
    let new = g.F.Folder.world c.create.new.self in
    (err_later_own {T = Bool} c.is_there.ensures.looked.stays c.in_ok-is_there.ensures.blames.calm
    (refused Bool old new Create c.in-Err.fault c.create.result c.in-Err.is
    (λ t. seen_free c.in_ok-is_there.field-0 _ _ (c.in_ok-is_there.ensures.told t) c.if-branch.false (ap (λ (s : Story). s.now.live c.args.name.now) (c.is_there.ensures.looked.same t)))
    c.create.ensures.cause (did_whole Create old new c.create.result (c.args.name.now, refl) c.create.ensures.told) _ c.store_fault.ensures))

pub returns-in_err-put_behind-clause-blames : goal.returns-in_err-put_behind-clause-blames
returns-in_err-put_behind-clause-blames g c =
    let p = err_from_is_err_and c.from_residual-in_err-put_behind.result c.from_residual-in_err-put_behind.ensures.1 in
    rw (p.1, p.2) (err_later_own (stays_both c.is_there.ensures.looked.stays (stays_by c.create.ensures.cause)) (calm_ok c.in_default-create.ensures.cause ∙ c.in_ok-is_there.ensures.blames.calm) c.in_err-put_behind.ensures.blames)

pub returns-clause-blames : goal.returns-clause-blames
returns-clause-blames g c = record { cause = tt; calm = c.in_ok-put_behind.ensures.blames.calm ∙ calm_ok c.in_default-create.ensures.cause ∙ c.in_ok-is_there.ensures.blames.calm }
