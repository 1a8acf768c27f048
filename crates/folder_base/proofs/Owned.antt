-- A step on a line's own names leaves the others alone.
use Rattle.std.proofs.Common.{◌≡◌, inl, inr, Bool, true, false, List, sym, ◌∙◌, ap, String, Ok, Err}
use Rattle.std.specs.Prelude.{Option, Some, None, Result, option_map}
use Rattle.std.specs.BTreeMap.{BTreeMap}
use Rattle.std.specs.declared.alloc.Global.{Global}
use Rattle.text_base.specs.declared.faults.OutOfMemory.{OutOfMemory}
use Rattle.folder_base.specs.Disk.{Name, File, Names, Disk, put, created, removed, changed, renamed, settled, empty_file}
use Rattle.folder_base.specs.Files.{names_of}
use Rattle.folder_base.specs.Log.{told}
use Rattle.folder_base.specs.Steps.{Agrees, DoneBy}
use Rattle.folder_base.specs.Story.{Story}
use Rattle.folder_base.specs.declared.step.Step.{Step}
use Rattle.folder_base.specs.declared.stored.Stored.{Stored}
use Rattle.folder_base.proofs.Images.{put_elim, same_or_not}
use Rattle.folder_base.proofs.Stepping.{renamed_live, renamed_same}

module _ (owned : Name → Bool) where
  -- a name that is not owned still stands for nothing
  abbrev pub LeavesNone : (Disk → Disk) → Type 0
  LeavesNone step = (disk : Disk) (n : Name) → owned n ≡ false → disk.live n ≡ None → (step disk).live n ≡ None

  abbrev pub StandsAlone : Names → Type 0
  StandsAlone names = (n : Name) → owned n ≡ false → names n ≡ None

  pub own_after : (is_proper : Names → Bool) (step : Disk → Disk) (old new : List Step) (files files' : BTreeMap (String Global) Stored) (done : Result Bool OutOfMemory) (start : Story)
      → Agrees start old files → Agrees start new files' → DoneBy (is_proper (told start old).now.live) step (told start old) (told start new) done → LeavesNone step
      → StandsAlone (names_of files) → StandsAlone (names_of files')
  own_after is_proper step old new files files' (Ok true) start agrees agrees' by leaves own n e =
      ap (λ (m : Names). m n) agrees' ∙ ap (λ (d : Disk). d.live n) by.1.now ∙ leaves (told start old).now n e (sym (ap (λ (m : Names). m n) agrees) ∙ own n e)
  own_after is_proper step old new files files' (Ok false) start agrees agrees' by leaves own n e =
      ap (λ (m : Names). m n) agrees' ∙ ap (λ (s : Story). s.now.live n) by.1 ∙ sym (ap (λ (m : Names). m n) agrees) ∙ own n e
  own_after is_proper step old new files files' (Err x) start agrees agrees' by leaves own n e =
      ap (λ (m : Names). m n) agrees' ∙ ap (λ (s : Story). s.now.live n) by ∙ sym (ap (λ (m : Names). m n) agrees) ∙ own n e

  not_owned : (name n : Name) → owned name ≡ true → owned n ≡ false → name ≡ n → ⊥
  not_owned name n yes_ no_ same = let e : owned name ≡ owned n = ap owned same in absurd (cc)

  put_owned : (names : Names) (name n : Name) (v : Option File) → owned name ≡ true → owned n ≡ false → names n ≡ None → put names name v n ≡ None
  put_owned names name n v yes_ no_ none = put_elim (λ o. o ≡ None) names name v n (λ same. absurd (not_owned name n yes_ no_ same)) (λ differs. none)

  pub created_leaves : (name : Name) → owned name ≡ true → LeavesNone (created name)
  created_leaves name own disk n e none = put_owned disk.live name n (Some empty_file) own e none

  pub removed_leaves : (name : Name) → owned name ≡ true → LeavesNone (removed name)
  removed_leaves name own disk n e none = put_owned disk.live name n None own e none

  pub changed_leaves : (name : Name) (change : File → File) → owned name ≡ true → LeavesNone (changed name change)
  changed_leaves name change own disk n e none = put_owned disk.live name n (option_map change (disk.live name)) own e none

  pub renamed_leaves : (from to : Name) → owned from ≡ true → owned to ≡ true → LeavesNone (renamed from to)
  renamed_leaves from to from_own to_own disk n e none = elim (same_or_not from to) [
    | inl same ↦ ap (λ (m : Names). m n) (renamed_same from to same.0 disk) ∙ none
    | inr differs ↦ ap (λ (m : Names). m n) (renamed_live from to differs disk)
        ∙ put_owned (put disk.live from None) to n (disk.live from) to_own e (put_owned disk.live from n None from_own e none)
  ]

  pub settled_leaves : LeavesNone settled
  settled_leaves disk n e none = none
