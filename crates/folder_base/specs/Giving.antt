-- What each part is given of the unsettled name changes, as they are handed out in one pass.
use Rattle.std.specs.Prelude.{◌≡◌, ℕ, Bool, true, false, List, [], ◌∷◌, ◌++◌, length, Some, Vec, slice_get}
use Rattle.std.specs.declared.alloc.Global.{Global}
use Rattle.folder_base.specs.Disk.{Name, Names}
use Rattle.folder_base.specs.Handing.{answers, AreOwnChanges, UndoesOwn}
use Rattle.folder_base.specs.declared.change.Change.{Change}
use Rattle.folder_base.specs.declared.undo.Undo.{Undo}
use Rattle.folder_base.specs.declared.undo.Undo.TheVariants.{Listed}

-- What is own of these changes stands behind the list, if it is given, and else the list is as it was.
abbrev pub Gives : (Name → Bool) → Names → List Change → Bool → List Undo → List Undo → Type 0
Gives mine live changes false before after = after ≡ before
Gives mine live changes true before after =
    (told : Vec Change Global) × AreOwnChanges mine live changes told.items × (after ≡ before ++ Listed told ∷ [])

-- So it is of each part's list; `given` says of a part's names whether it is given.
pub record GivesEach (stems : List Name) (live : Names) (changes : List Change) (given : (Name → Bool) → Bool) (old new : List (Vec Undo Global)) : Type 0 where
  pub many : length new ≡ length old
  pub each : (at : ℕ) (before after : Vec Undo Global) → slice_get old at ≡ Some before → slice_get new at ≡ Some after
      → Gives (answers stems (Some at)) live changes (given (answers stems (Some at))) before.items after.items

-- for each part what undoes the changes that touch its names, in the order of the stems
pub record ArePartUndos (stems : List Name) (live : Names) (undos : List Undo) (lists : List (Vec Undo Global)) : Type 0 where
  pub many : length lists ≡ length stems
  pub each : (at : ℕ) (own : Vec Undo Global) → slice_get lists at ≡ Some own → UndoesOwn (answers stems (Some at)) live undos own.items
