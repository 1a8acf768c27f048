use Rattle.std.proofs.Common.{List, take}
use Rattle.folder_base.specs.Disk.{Name}
use Rattle.folder_base.specs.Files.{names_of}
use Rattle.folder_base.specs.Handing.{answers, AreOwnChanges}
use Rattle.folder_base.specs.Index.{IsIndex}
use Rattle.folder_base.specs.Parts.{AreApart}
use Rattle.folder_base.proofs.own.own_changes.Given as goal

abbrev pub invariant-loop-change : goal.invariant-loop-change
invariant-loop-change l = (stems : List Name) → IsIndex stems l.index → AreApart stems → AreOwnChanges (answers stems l.place) (names_of l.live) (take l.change-index l.change-items) l.own.items
