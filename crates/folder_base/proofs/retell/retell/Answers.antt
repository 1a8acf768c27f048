use Rattle.std.proofs.Common.{option_map, subst, sym}
use Rattle.std.specs.Prelude.{Option}
use Rattle.folder_base.specs.Disk.{Name, Spot}
use Rattle.folder_base.specs.Retold.{retold, IsRetold}
use Rattle.folder_base.specs.declared.undo.Undo.{Undo}
use Rattle.folder_base.specs.declared.undo.Undo.TheVariants.{Listed}
use Rattle.folder_base.proofs.Retelling.{listed_told, plain_told, retold_lost, not_listed}
use Rattle.folder_base.proofs.retell.retell.Goals as goal

pub returns-in_ok-retell_changes-in-Listed : goal.returns-in_ok-retell_changes-in-Listed
returns-in_ok-retell_changes-in-Listed c = λ live was.
    let t : Option Spot → Option Spot = retold live c.args.name.now (option_map (λ text. text.now) c.args.from) in
    let new = c.in_ok-retell_changes-in-Listed.field-0 in
    subst (λ (undo : Undo). IsRetold t undo (Listed new)) (sym c.in-Listed.is)
    (listed_told t c.in-Listed.changes new (c.in_ok-retell_changes-in-Listed.ensures live was))

pub returns-in_default : goal.returns-in_default
returns-in_default c = λ live was.
    let from : Option Name = option_map (λ text. text.now) c.args.from in
    plain_told (retold live c.args.name.now from) (retold_lost live c.args.name.now from) c.args.undo (not_listed c.args.undo c.in_default.not-Listed)
