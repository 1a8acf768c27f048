use Rattle.std.proofs.Common.{ap}
use Rattle.std.specs.Prelude.{is_err}
use Rattle.text_base.specs.declared.faults.FolderCall.TheVariants.{Size}
use Rattle.keep_store.proofs.Found.{stays_read}
use Rattle.folder_steps.proofs.RefusalLemmas.{read_done, read_refused}
use Rattle.folder_steps.proofs.asking.size_of.Goals as goal

pub returns-in-Ok-clause-blames : goal.returns-in-Ok-clause-blames
returns-in-Ok-clause-blames g c = read_done c.in-Ok.ensures.cause

pub returns-in-Err-clause-blames : goal.returns-in-Err-clause-blames
returns-in-Err-clause-blames g c =
    read_refused _ (g.F.Folder.world c.args.folder.now) (g.F.Folder.world c.size.new.self) Size c.size.result (ap is_err c.in-Err.is) (stays_read c.size.ensures.cause) (λ t. tt) c.size.ensures.cause
