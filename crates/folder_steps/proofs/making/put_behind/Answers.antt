use Rattle.text_base.specs.declared.faults.FolderCall.TheVariants.{Append}
use Rattle.keep_store.proofs.Refusals.{did_append}
use Rattle.folder_steps.proofs.NewFileLemmas.{grows, has_more}
use Rattle.folder_steps.proofs.RefusalLemmas.{done, refused}
use Rattle.folder_steps.proofs.making.put_behind.Goals as goal

pub returns-in-Ok-clause-grown : goal.returns-in-Ok-clause-grown
returns-in-Ok-clause-grown g c t = grows c.args.name.now c.args.bytes.now c.append.result (c.append.ensures.told t)

pub returns-in-Err-clause-grown : goal.returns-in-Err-clause-grown
returns-in-Err-clause-grown g c t = grows c.args.name.now c.args.bytes.now c.append.result (c.append.ensures.told t)

pub returns-in-Ok-clause-put : goal.returns-in-Ok-clause-put
returns-in-Ok-clause-put g c t start before had = has_more c.args.name.now before c.args.bytes.now start had (c.in-Ok.ensures.told t).done

pub returns-in-Ok-clause-blames : goal.returns-in-Ok-clause-blames
returns-in-Ok-clause-blames g c = done c.in-Ok.ensures.cause

pub returns-in-Err-clause-blames : goal.returns-in-Err-clause-blames
returns-in-Err-clause-blames g c =
    let old = g.F.Folder.world c.args.folder.now in
    let new = g.F.Folder.world c.append.new.self in
    refused _ old new Append c.in-Err.fault c.append.result c.in-Err.is c.requires.stands c.append.ensures.cause (did_append old new c.args.name.now c.args.bytes.now c.append.result c.append.ensures.told) _ c.store_fault.ensures
