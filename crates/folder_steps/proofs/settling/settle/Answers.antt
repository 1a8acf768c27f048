use Rattle.std.proofs.Common.{refl}
use Rattle.text_base.specs.declared.faults.FolderCall.TheVariants.{Settle}
use Rattle.keep_store.proofs.Refusals.{did_whole}
use Rattle.folder_steps.proofs.ImageLemmas.{after_settle}
use Rattle.folder_steps.proofs.RefusalLemmas.{done, refused}
use Rattle.folder_steps.proofs.settling.settle.Goals as goal

pub returns-in-Ok-clause-moments : goal.returns-in-Ok-clause-moments
returns-in-Ok-clause-moments g c t = after_settle c.settle.result (c.settle.ensures.told t)

pub returns-in-Err-clause-moments : goal.returns-in-Err-clause-moments
returns-in-Err-clause-moments g c t = after_settle c.settle.result (c.settle.ensures.told t)

pub returns-in-Ok-clause-blames : goal.returns-in-Ok-clause-blames
returns-in-Ok-clause-blames g c = done c.in-Ok.ensures.cause

pub returns-in-Err-clause-blames : goal.returns-in-Err-clause-blames
returns-in-Err-clause-blames g c =
    let old = g.F.Folder.world c.args.folder.now in
    let new = g.F.Folder.world c.settle.new.self in
    refused _ old new Settle c.in-Err.fault c.settle.result c.in-Err.is (λ t. tt) c.settle.ensures.cause (did_whole Settle old new c.settle.result refl c.settle.ensures.told) _ c.store_fault.ensures
