use Rattle.std.proofs.Common.{◌∙◌, refl, ap}
use Rattle.text_base.specs.declared.faults.FolderCall.TheVariants.{Remove}
use Rattle.folder_base.specs.Story.{Story}
use Rattle.keep_store.proofs.Refusals.{did_whole, calm_ok}
use Rattle.folder_steps.proofs.RefusalLemmas.{refused, err_later}
use Rattle.tool_chain.proofs.StepLemmas.{spares_both, spares_looked, spares_removed, stays_by, seen_there}
use Rattle.tool_chain.proofs.chain.clear.Goals as goal

pub returns-in_err-is_there-clause-spares : goal.returns-in_err-is_there-clause-spares
returns-in_err-is_there-clause-spares g c = spares_looked _ c.is_there.ensures.looked

pub returns-then-not-branch-clause-spares : goal.returns-then-not-branch-clause-spares
returns-then-not-branch-clause-spares g c = spares_looked _ c.is_there.ensures.looked

pub returns-in-Ok-clause-spares : goal.returns-in-Ok-clause-spares
returns-in-Ok-clause-spares g c = spares_both _ (spares_looked _ c.is_there.ensures.looked) (spares_removed c.args.name.now c.remove.result (stays_by c.remove.ensures.cause) c.remove.ensures.told)

pub returns-in-Err-clause-spares : goal.returns-in-Err-clause-spares
returns-in-Err-clause-spares g c = spares_both _ (spares_looked _ c.is_there.ensures.looked) (spares_removed c.args.name.now c.remove.result (stays_by c.remove.ensures.cause) c.remove.ensures.told)

pub returns-in-Ok-clause-blames : goal.returns-in-Ok-clause-blames
returns-in-Ok-clause-blames g c = record { cause = tt; calm = calm_ok c.in-Ok.ensures.cause ∙ c.in_ok-is_there.ensures.blames.calm }

pub returns-in-Err-clause-blames : goal.returns-in-Err-clause-blames
returns-in-Err-clause-blames g c =
    let old = g.F.Folder.world c.is_there.new.folder in
    let new = g.F.Folder.world c.remove.new.self in
    err_later {T = Unit {0}} c.is_there.ensures.looked.stays c.in_ok-is_there.ensures.blames.calm
    (refused (Unit {0}) old new Remove c.in-Err.fault c.remove.result c.in-Err.is
    (λ t. seen_there c.in_ok-is_there.field-0 _ _ (c.in_ok-is_there.ensures.told t) c.if-not-branch.false (ap (λ (s : Story). s.now.live c.args.name.now) (c.is_there.ensures.looked.same t)))
    c.remove.ensures.cause (did_whole Remove old new c.remove.result (c.args.name.now, refl) c.remove.ensures.told) _ c.store_fault.ensures)
