use Rattle.std.proofs.Common.{◌≡◌, List, length, take}
use Rattle.folder_base.specs.Disk.{Name}
use Rattle.folder_base.specs.Files.{names_of}
use Rattle.folder_base.specs.Index.{IsIndex}
use Rattle.folder_base.specs.Listing.{listed}
use Rattle.folder_base.specs.Giving.{ArePartUndos}
use Rattle.folder_base.specs.Parts.{AreApart}
use Rattle.folder_base.proofs.parting.split_undos.Given as goal

abbrev pub invariant-loop-changes : goal.invariant-loop-changes
invariant-loop-changes l = (stems : List Name) → IsIndex stems l.index → AreApart stems → length stems ≡ l.count
    → ArePartUndos stems (names_of l.live) (listed (take l.changes-index l.changes-items)) l.lists.items
