use Rattle.std.proofs.Common.{◌≡◌, List, false, map, take}
use Rattle.folder_base.specs.Disk.{Name}
use Rattle.folder_base.specs.Handing.{answers}
use Rattle.folder_base.specs.Index.{IsIndex}
use Rattle.folder_base.specs.Parts.{AreApart, touches}
use Rattle.folder_base.proofs.own.touch.Given as goal

abbrev pub invariant-loop-change : goal.invariant-loop-change
invariant-loop-change l = (stems : List Name) → IsIndex stems l.index → AreApart stems → touches (answers stems l.place) (map (λ change. change.name) (take l.change-index l.changes)) ≡ false
