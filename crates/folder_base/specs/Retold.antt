-- What is told of earlier names, told again once a name stands for another file.
use Rattle.std.specs.Prelude.{◌≡◌, List, [], ◌∷◌, Option, Some, None, option_map, option_and_then, ⊤}
use Rattle.folder_base.specs.Disk.{Name, Names, Spot, Spots, freed_spot, moved_spot}
use Rattle.folder_base.specs.Undo.{was_spot, undone, touched_by, IsPlain}
use Rattle.folder_base.specs.declared.change.Change.{Change}
use Rattle.folder_base.specs.declared.undo.Undo.{Undo}
use Rattle.folder_base.specs.declared.was.Was.{Was}

-- the file of `from`, if it is given, has the name `to` from now on
abbrev pub gone_to : Option Name → Name → Option Spot → Option Spot
gone_to None to spot = spot
gone_to (Some from) to spot = option_map (moved_spot from to) spot

-- what a name stood for, once `name` stands for another file or for none: for that of `from`, if it is given
abbrev pub retold : Names → Name → Option Name → Option Spot → Option Spot
retold live name from spot = gone_to from name (option_and_then (freed_spot live name) spot)

-- what each name stood for, told again
abbrev pub told_each : (Option Spot → Option Spot) → Spots → Spots
told_each t spots = λ name. t (spots name)

-- Whatever the name stands for now, what it was is what was told before, told again.
abbrev pub IsRetoldWas : (Option Spot → Option Spot) → Was → Was → Type 0
IsRetoldWas t old new = (now : Option Spot) → t (was_spot old now) ≡ was_spot new (t now)

-- It is of the same name, and gives what was told before, told again.
pub record IsRetoldChange (t : Option Spot → Option Spot) (old new : Change) : Type 0 where
  pub name : new.name ≡ old.name
  pub was : IsRetoldWas t old.was new.was

-- so each of the changes, one for one
abbrev pub AreRetoldChanges : (Option Spot → Option Spot) → List Change → List Change → Type 0
AreRetoldChanges t [] [] = ⊤
AreRetoldChanges t [] (new ∷ news) = ⊥
AreRetoldChanges t (old ∷ olds) [] = ⊥
AreRetoldChanges t (old ∷ olds) (new ∷ news) = IsRetoldChange t old new × AreRetoldChanges t olds news

-- It touched the same names, and gives what was told before, told again.
pub record IsRetold (t : Option Spot → Option Spot) (old new : Undo) : Type 0 where
  pub touched : touched_by new ≡ touched_by old
  pub plain : IsPlain old → IsPlain new
  pub undoes : (spots : Spots) → told_each t (undone old spots) ≡ undone new (told_each t spots)

-- so each of the undoings, one for one
abbrev pub AreRetold : (Option Spot → Option Spot) → List Undo → List Undo → Type 0
AreRetold t [] [] = ⊤
AreRetold t [] (new ∷ news) = ⊥
AreRetold t (old ∷ olds) [] = ⊥
AreRetold t (old ∷ olds) (new ∷ news) = IsRetold t old new × AreRetold t olds news
