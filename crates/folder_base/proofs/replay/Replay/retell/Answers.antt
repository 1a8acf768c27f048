use Rattle.std.proofs.Common.{subst, option_map, Vec}
use Rattle.std.specs.declared.alloc.Global.{Global}
use Rattle.folder_base.specs.Retold.{AreRetold, retold}
use Rattle.folder_base.specs.declared.undo.Undo.{Undo}
use Rattle.folder_base.proofs.Retelling.{all_plain_told}
use Rattle.folder_base.proofs.replay.Replay.retell.Goals as goal

pub returns-in_ok-self-clause-undos : goal.returns-in_ok-self-clause-undos
returns-in_ok-self-clause-undos c = λ live was plain.
    subst (λ (undos : Vec Undo Global). AreRetold (retold live c.args.name.now (option_map (λ text. text.now) c.args.from)) undos.items c.in_ok-self.field-0.items) c.replace-undos.ensures.value
    (c.in_ok-self.ensures live was)

pub returns-else-self-clause-undos : goal.returns-else-self-clause-undos
returns-else-self-clause-undos c = λ live was plain.
    all_plain_told live c.args.name.now (option_map (λ text. text.now) c.args.from) c.args.self.now.undos.items (plain c.if-self.false)
