-- What a part, or the rest, has of the unsettled name changes as parts are handed out.
use Rattle.std.specs.Prelude.{◌≡◌, ℕ, Bool, false, not, List, length, map, reverse, Option, Some, None, option_and_then, slice_get}
use Rattle.std.specs.Option.{option_map_or}
use Rattle.folder_base.specs.Disk.{Name, Names, Spot, Spots, Older, Disk}
use Rattle.folder_base.specs.Parts.{is_part, is_in_some, inside, own_spot, own_spots, own_back}
use Rattle.folder_base.specs.Undo.{was_spot, set_spot, set_spots, AreUndone, IsReplayed}
use Rattle.folder_base.specs.declared.change.Change.{Change}
use Rattle.folder_base.specs.declared.replay.Replay.{Replay}
use Rattle.folder_base.specs.declared.undo.Undo.{Undo}
use Rattle.folder_base.specs.declared.was.Was.{Was}

-- Whether the part in this place answers for the name, or no part where that is None.
abbrev pub answers : List Name → Option ℕ → Name → Bool
answers stems None name = not (is_in_some stems name)
answers stems (Some at) name = option_map_or (λ stem. is_part stem name) (slice_get stems at) false

-- What an own name had, as a part tells it.
abbrev pub TellsOwn : (Name → Bool) → Names → Was → Was → Type 0
TellsOwn mine live was own =
    (now : Option Spot) → option_and_then (own_spot mine live) (was_spot was now) ≡ was_spot own (option_and_then (own_spot mine live) now)

-- It touched the same name, and gives the part what was told before of the part's names.
pub record IsOwnChange (mine : Name → Bool) (live : Names) (change own : Change) : Type 0 where
  pub name : own.name ≡ change.name
  pub sets : (spots : Spots) → own_spots mine live (set_spot change spots) ≡ set_spot own (own_spots mine live spots)

-- These changes set the same names, and set them as they stand among the names that are `mine`.
pub record AreOwnChanges (mine : Name → Bool) (live : Names) (changes own : List Change) : Type 0 where
  pub names : map (λ change. change.name) own ≡ map (λ change. change.name) changes
  pub sets : (spots : Spots) → own_spots mine live (set_spots changes spots) ≡ set_spots own (own_spots mine live spots)

-- What undoes the changes that touch these names, of what undoes them all.
abbrev pub UndoesOwn : (Name → Bool) → Names → List Undo → List Undo → Type 0
UndoesOwn mine live undos own =
    (spots : Spots) (back : List Older) → AreUndone (reverse undos) spots back → AreUndone (reverse own) (own_spots mine live spots) (own_back mine live back)

-- Each part as it is handed out, in the order of the stems
pub record AreStarts (stems : List Name) (disk : Disk) (starts : List Replay) : Type 0 where
  pub many : length starts ≡ length stems
  pub each : (at : ℕ) (stem : Name) (start : Replay) → slice_get stems at ≡ Some stem → slice_get starts at ≡ Some start → IsReplayed (inside stem disk) start
