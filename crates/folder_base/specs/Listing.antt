-- What names had before unsettled changes, listed name by name.
use Rattle.std.specs.Prelude.{◌≡◌, List, map, reverse, Option, Some, None, String, Vec}
use Rattle.std.specs.BTreeMap.{BTreeMap, get_by_text}
use Rattle.std.specs.declared.alloc.Global.{Global}
use Rattle.folder_base.specs.Disk.{Names, Spot, Spots, Older, Disk, mark}
use Rattle.folder_base.specs.Undo.{was_spot, undone, touched_by, AreUndone}
use Rattle.folder_base.specs.declared.change.Change.{Change}
use Rattle.folder_base.specs.declared.undo.Undo.{Undo}
use Rattle.folder_base.specs.declared.undo.Undo.TheVariants.{Listed}
use Rattle.folder_base.specs.declared.was.Was.{Was}

-- what a name had, if that was seen, and else what it has
abbrev pub seen_spot : Option Was → Option Spot → Option Spot
seen_spot None now = now
seen_spot (Some was) now = was_spot was now

-- what names had, of which some were seen
abbrev pub seen_spots : Names → BTreeMap (String Global) Was → Spots
seen_spots live seen = λ name. seen_spot (get_by_text seen name) (mark live name)

-- each as what undoes a change
abbrev pub listed : List (Vec Change Global) → List Undo
listed all = map (λ changes. Listed changes) all

-- The list undoes the same change, after which names stood for this.
pub record IsExplained (spots : Spots) (undo : Undo) (changes : Vec Change Global) : Type 0 where
  pub touched : touched_by (Listed changes) ≡ touched_by undo
  pub undoes : undone (Listed changes) spots ≡ undone undo spots

-- The lists undo what the others undo, from these names on.
abbrev pub Explains : Names → List Undo → List (Vec Change Global) → Type 0
Explains live undos all = (back : List Older) → AreUndone (reverse undos) (mark live) back → AreUndone (reverse (listed all)) (mark live) back

-- The lists undo the disk's unsettled name changes.
abbrev pub IsListed : Disk → List (Vec Change Global) → Type 0
IsListed disk all = AreUndone (reverse (listed all)) (mark disk.live) disk.back
