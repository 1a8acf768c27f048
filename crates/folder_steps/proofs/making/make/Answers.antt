use Rattle.std.proofs.Common.{refl, sym, subst}
use Rattle.std.specs.Prelude.{IsNone, Option}
use Rattle.text_base.specs.declared.faults.FolderCall.TheVariants.{Create}
use Rattle.folder_base.specs.Disk.{File}
use Rattle.keep_store.proofs.Refusals.{did_whole}
use Rattle.folder_steps.proofs.NewFileLemmas.{after_create, is_made}
use Rattle.folder_steps.proofs.RefusalLemmas.{done, refused}
use Rattle.folder_steps.proofs.making.make.Goals as goal

pub returns-in-Ok-clause-moments : goal.returns-in-Ok-clause-moments
returns-in-Ok-clause-moments g c t = after_create _ c.create.result (c.create.ensures.told t)

pub returns-in-Err-clause-moments : goal.returns-in-Err-clause-moments
returns-in-Err-clause-moments g c t = after_create _ c.create.result (c.create.ensures.told t)

pub returns-in-Ok-clause-made : goal.returns-in-Ok-clause-made
returns-in-Ok-clause-made g c t = is_made c.args.name.now (c.in-Ok.ensures.told t).done

pub returns-in-Ok-clause-blames : goal.returns-in-Ok-clause-blames
returns-in-Ok-clause-blames g c = done c.in-Ok.ensures.cause

pub returns-in-Err-clause-blames : goal.returns-in-Err-clause-blames
returns-in-Err-clause-blames g c =
    let old = g.F.Folder.world c.args.folder.now in
    let new = g.F.Folder.world c.create.new.self in
    refused _ old new Create c.in-Err.fault c.create.result c.in-Err.is (λ t. subst (λ (o : Option File). IsNone o) (sym (c.requires.free t)) refl) c.create.ensures.cause (did_whole Create old new c.create.result (c.args.name.now, refl) c.create.ensures.told) _ c.store_fault.ensures
