use Rattle.std.proofs.Common.{List, take}
use Rattle.folder_base.specs.Disk.{Name}
use Rattle.folder_base.specs.Index.{IsIndex, FindsPart}
use Rattle.folder_base.specs.Undo.{AreOwnWas}
use Rattle.folder_base.proofs.owning.are_changes_of.Given as goal

abbrev pub invariant-loop-change : goal.invariant-loop-change
invariant-loop-change l = (stems : List Name) → IsIndex stems l.index → AreOwnWas (λ name. FindsPart stems name l.place) (take l.change-index l.change-items)
