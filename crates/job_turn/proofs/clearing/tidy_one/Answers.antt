use Rattle.folder_base.specs.declared.store_fault.StoreFault.{StoreFault}
use Rattle.folder_base.specs.declared.store_fault.StoreFault.TheVariants.{OutOfMemory}
use Rattle.component_store.specs.Target.{component_of}
use Rattle.component_store.specs.Tidy.{is_tidied}
use Rattle.job_turn.proofs.ClearLemmas.{clears_not, tidies}
use Rattle.job_turn.proofs.clearing.tidy_one.Goals as goal

pub returns-in_default-clause-cleared : goal.returns-in_default-clause-cleared
returns-in_default-clause-cleared g c =
    clears_not {E = StoreFault} (is_tidied c.args.component.now c.args.is_final c.args.keep (g.F.Folder.world c.args.folder.now).story.now.live) (g.F.Folder.world c.args.folder.now) OutOfMemory

pub returns-clause-cleared : goal.returns-clause-cleared
returns-clause-cleared g c =
    tidies {E = StoreFault} (component_of c.in-Ok.target) c.args.component.now c.in-Ok.target.is_final c.args.is_final c.args.keep c.tidy.result c.in-Ok.ensures.named c.in-Ok.ensures.is_final c.tidy.ensures.kept c.tidy.ensures.moments c.tidy.ensures.live
