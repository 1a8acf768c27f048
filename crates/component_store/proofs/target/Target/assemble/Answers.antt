use Rattle.std.specs.Prelude.{string_bytes}
use Rattle.folder_base.proofs.Moments.{weaker}
use Rattle.component_store.proofs.AssembleLemmas.{assembling_sound}
use Rattle.component_store.proofs.target.Target.assemble.Goals as goal

pub returns-then-self-eq1-clause-sound : goal.returns-then-self-eq1-clause-sound
returns-then-self-eq1-clause-sound g c t web counted sound =
    weaker (c.assemble_one.ensures.moments t) (assembling_sound web (string_bytes c.args.self.now.name) c.args.self.now.count (g.F.Folder.world c.args.folder.now).story.now sound counted)

pub returns-else-self-eq1-clause-sound : goal.returns-else-self-eq1-clause-sound
returns-else-self-eq1-clause-sound g c t web counted sound =
    weaker (c.assemble_all.ensures.moments t) (assembling_sound web (string_bytes c.args.self.now.name) c.args.self.now.count (g.F.Folder.world c.args.folder.now).story.now sound counted)
