-- What undoes the unsettled name changes that some steps have made.
use Rattle.std.specs.Prelude.{◌≡◌, ℕ, List, [], ◌∷◌, length, map, nat_lt, reverse, Option, Some, option_map, ⊤, Bool, true, false, not, is_some, if◌then◌else◌, Result, OnOk}
use Rattle.folder_base.specs.Disk.{Name, Names, Spot, still, lost, Spots, Older, Disk, put, mark}
use Rattle.folder_base.specs.Files.{names_of}
use Rattle.folder_base.specs.Parts.{joined}
use Rattle.folder_base.specs.Stored.{file_of}
use Rattle.folder_base.specs.declared.change.Change.{Change}
use Rattle.folder_base.specs.declared.replay.Replay.{Replay}
use Rattle.folder_base.specs.declared.stored.Stored.{Stored}
use Rattle.folder_base.specs.declared.undo.Undo.{Undo}
use Rattle.folder_base.specs.declared.undo.Undo.TheVariants.{Freed, Moved, Listed}
use Rattle.folder_base.specs.declared.was.Was.{Was}
use Rattle.folder_base.specs.declared.was.Was.TheVariants.{Apart, Lost, Still}

-- Maps before a change, from those after it: `value` is what a name had whose file is lost, and `there` what one had whose file
-- goes by that name now.
module _ {V : Type 0} (value : Option Stored → Option V) (there : Name → Option V) where
  -- what a name had, which has `now` after the change
  abbrev pub was_by : Was → Option V → Option V
  was_by Apart now = now
  was_by (Lost file) now = value file
  was_by (Still name) now = there name

  -- the map with the name of a change as it was
  abbrev pub set_by : Change → (Name → Option V) → Name → Option V
  set_by change names = put names change.name (was_by change.was (names change.name))

  -- the map with the name of each change as it was, one after another
  abbrev pub set_all_by : List Change → (Name → Option V) → Name → Option V
  set_all_by [] names = names
  set_all_by (change ∷ changes) names = set_all_by changes (set_by change names)

  -- the map before the change that this undoes
  abbrev pub undone_by : Undo → (Name → Option V) → Name → Option V
  undone_by (Freed name file) names = put names name (value file)
  undone_by (Moved from to file) names = put (put names to (value file)) from (names to)
  undone_by (Listed changes) names = set_all_by changes.items names

-- a file that has no name any more, where there is one
abbrev pub lost_spot : Option Stored → Option Spot
lost_spot file = option_map (λ f. lost (file_of f)) file

-- a file that goes by this name now
abbrev pub still_spot : Name → Option Spot
still_spot name = Some (still name)

-- what a name stood for
abbrev pub was_spot : Was → Option Spot → Option Spot
was_spot = was_by lost_spot still_spot

-- earlier names with the name of a change as it was
abbrev pub set_spot : Change → Spots → Spots
set_spot = set_by lost_spot still_spot

-- earlier names with the name of each change as it was
abbrev pub set_spots : List Change → Spots → Spots
set_spots = set_all_by lost_spot still_spot

-- what names stood for
abbrev pub undone : Undo → Spots → Spots
undone = undone_by lost_spot still_spot

-- The names with their files; `live` are those before anything was undone.
abbrev pub set_name : Names → Change → Names → Names
set_name live = set_by (option_map file_of) live

-- the same for each of these changes
abbrev pub set_names : Names → List Change → Names → Names
set_names live = set_all_by (option_map file_of) live

-- the names with their files, before the change that this undoes
abbrev pub undone_names : Names → Undo → Names → Names
undone_names live = undone_by (option_map file_of) live

-- The names once all changes but the first `kept` are undone, the last one first.
abbrev pub first_done : Names → ℕ → List Undo → Names → Names
first_done live kept [] names = names
first_done live kept (undo ∷ undos) names =
    if nat_lt (length undos) kept then names else first_done live kept undos (undone_names live undo names)

-- the names that the change touched
abbrev pub touched_by : Undo → List Name
touched_by (Freed name file) = name ∷ []
touched_by (Moved from to file) = to ∷ from ∷ []
touched_by (Listed changes) = map (λ change. change.name) changes.items

-- Each undoes one change, from these names on.
abbrev pub Undoes : List Undo → Spots → List Older → Type 0
Undoes [] spots [] = ⊤
Undoes [] spots (older ∷ back) = ⊥
Undoes (undo ∷ undos) spots [] = ⊥
Undoes (undo ∷ undos) spots (older ∷ back) = (older.names ≡ undone undo spots) × Undoes undos older.names back

-- the same, and each touched what its change touched
pub record AreUndone (undos : List Undo) (spots : Spots) (back : List Older) : Type 0 where
  pub names : Undoes undos spots back
  pub touched : map touched_by undos ≡ map (λ older. older.touched) back

-- It does not list its changes.
abbrev pub IsPlain : Undo → Type 0
IsPlain (Freed name file) = ⊤
IsPlain (Moved from to file) = ⊤
IsPlain (Listed changes) = ⊥

-- None of them is listed.
abbrev pub ArePlain : List Undo → Type 0
ArePlain [] = ⊤
ArePlain (undo ∷ undos) = IsPlain undo × ArePlain undos

-- The files are those of the disk, and its unsettled name changes can be undone.
pub record IsReplayed (disk : Disk) (replay : Replay) : Type 0 where
  pub live : names_of replay.files ≡ disk.live
  pub back : AreUndone (reverse replay.undos.items) (mark disk.live) disk.back
  pub plain : replay.listed ≡ false → ArePlain replay.undos.items

-- So it is after the step, whatever disk it was made on.
abbrev pub Replays : {E : Type 0} → (Disk → Disk) → Replay → Replay → Result (Unit {0}) E → Type 0
Replays step old new result = OnOk result ((disk : Disk) → IsReplayed disk old → IsReplayed (step disk) new)

-- A fact of a name of which something is told, and of the name that its file has now
abbrev pub IsOwnWas : (Name → Type 0) → Name → Was → Type 0
IsOwnWas P name Apart = ⊤
IsOwnWas P name (Lost file) = P name
IsOwnWas P name (Still now) = P name × P now

-- so for each of these changes
abbrev pub AreOwnWas : (Name → Type 0) → List Change → Type 0
AreOwnWas P [] = ⊤
AreOwnWas P (change ∷ changes) = IsOwnWas P change.name change.was × AreOwnWas P changes

-- A fact of each name that the undoing gives a file or takes it from
abbrev pub IsOwn : (Name → Type 0) → Undo → Type 0
IsOwn P (Freed name file) = P name
IsOwn P (Moved from to file) = P from × P to
IsOwn P (Listed changes) = AreOwnWas P changes.items

-- so for each of these undoings
abbrev pub AreOwn : (Name → Type 0) → List Undo → Type 0
AreOwn P [] = ⊤
AreOwn P (undo ∷ undos) = IsOwn P undo × AreOwn P undos

-- It is so of each name that stands or was touched.
pub record HoldsOnly (P : Name → Type 0) (replay : Replay) : Type 0 where
  pub files : (name : Name) → is_some (names_of replay.files name) ≡ true → P name
  pub undos : AreOwn P replay.undos.items

-- The part and the rest are one, whatever disks they were made on.
abbrev pub Joins : Replay → Replay → Replay → Type 0
Joins part old new = (mine : Name → Bool) (disk rest : Disk) → IsReplayed disk part → IsReplayed rest old
    → HoldsOnly (λ name. mine name ≡ true) part → HoldsOnly (λ name. not (mine name) ≡ true) old → IsReplayed (joined mine disk rest) new
