use Rattle.std.proofs.Common.{◌≡◌, List, length, take}
use Rattle.folder_base.specs.Disk.{Name}
use Rattle.folder_base.specs.Files.{names_of}
use Rattle.folder_base.specs.Index.{IsIndex}
use Rattle.folder_base.specs.Giving.{GivesEach}
use Rattle.folder_base.specs.Parts.{AreApart, touches}
use Rattle.folder_base.proofs.Giving.{names_in}
use Rattle.folder_base.proofs.parting.give_changes.Given as goal

abbrev pub invariant-loop-at : goal.invariant-loop-at
invariant-loop-at l = (stems : List Name) → IsIndex stems l.index → AreApart stems → length l.initial.lists.items ≡ length stems
    → GivesEach stems (names_of l.live) l.changes.items (λ mine. touches mine (names_in (take l.at l.changes.items))) l.initial.lists.items l.lists.items
