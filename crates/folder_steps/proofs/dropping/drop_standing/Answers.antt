use Rattle.std.proofs.Common.{refl}
use Rattle.text_base.specs.declared.faults.FolderCall.TheVariants.{Remove}
use Rattle.keep_store.proofs.Refusals.{did_whole}
use Rattle.folder_steps.proofs.RemovalLemmas.{after_remove}
use Rattle.folder_steps.proofs.RefusalLemmas.{done, refused}
use Rattle.folder_steps.proofs.dropping.drop_standing.Goals as goal

pub returns-in-Ok-clause-moments : goal.returns-in-Ok-clause-moments
returns-in-Ok-clause-moments g c t = after_remove _ _ c.remove.result (c.remove.ensures.told t)

pub returns-in-Err-clause-moments : goal.returns-in-Err-clause-moments
returns-in-Err-clause-moments g c t = after_remove _ _ c.remove.result (c.remove.ensures.told t)

pub returns-in-Ok-clause-blames : goal.returns-in-Ok-clause-blames
returns-in-Ok-clause-blames g c = done c.in-Ok.ensures.cause

pub returns-in-Err-clause-blames : goal.returns-in-Err-clause-blames
returns-in-Err-clause-blames g c =
    let old = g.F.Folder.world c.args.folder.now in
    let new = g.F.Folder.world c.remove.new.self in
    refused _ old new Remove c.in-Err.fault c.remove.result c.in-Err.is c.requires.stands c.remove.ensures.cause (did_whole Remove old new c.remove.result (c.args.name.now, refl) c.remove.ensures.told) _ c.store_fault.ensures
