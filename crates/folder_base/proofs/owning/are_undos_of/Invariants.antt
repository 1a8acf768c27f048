use Rattle.std.proofs.Common.{List, take}
use Rattle.folder_base.specs.Disk.{Name}
use Rattle.folder_base.specs.Index.{IsIndex, FindsPart}
use Rattle.folder_base.specs.Undo.{AreOwn}
use Rattle.folder_base.proofs.owning.are_undos_of.Given as goal

abbrev pub invariant-loop-undo : goal.invariant-loop-undo
invariant-loop-undo l = (stems : List Name) → IsIndex stems l.index → AreOwn (λ name. FindsPart stems name l.place) (take l.undo-index l.undo-items)
