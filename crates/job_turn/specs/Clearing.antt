-- What is removed behind a job.
use Rattle.std.specs.Prelude.{◌≡◌, Bool, true, false, ◌||◌, IsTrue, List, [], ◌∷◌, None, OnOk, ⊤, Result, is_some, if◌then◌else◌}
use Rattle.folder_base.specs.Disk.{Name, Names, May}
use Rattle.folder_base.specs.Story.{World, Through}
use Rattle.folder_steps.specs.Follow.{Follows, Thinner, IsLive}
use Rattle.keep_store.specs.Publish.{Stays}
use Rattle.plan_record.specs.Names.{record_of}
use Rattle.component_store.specs.Tidy.{is_tidied}
use Rattle.component_turn.specs.Plan.{is_of}

-- The record of a component stands.
abbrev pub is_recorded : Names → Name → Bool
is_recorded live component = is_some (live (record_of component))

-- That of one of these does.
abbrev pub some_recorded : Names → List Name → Bool
some_recorded live [] = false
some_recorded live (component ∷ components) = is_recorded live component || some_recorded live components

-- The name goes as these components are tidied.
abbrev pub is_tidied_of : Bool → Bool → Names → List Name → Name → Bool
is_tidied_of final keep live [] name = false
is_tidied_of final keep live (component ∷ components) name = is_tidied component final keep live name || is_tidied_of final keep live components name

-- The name is of the family of one of these components.
abbrev pub is_of_some : List Name → Name → Bool
is_of_some [] name = false
is_of_some (component ∷ components) name = is_of component name || is_of_some components name

-- No name is of two of these families.
abbrev pub AreNamesApart : List Name → Type 0
AreNamesApart [] = ⊤
AreNamesApart (component ∷ components) = ((name : Name) → is_of component name ≡ true → is_of_some components name ≡ false) × AreNamesApart components

-- Files went under these names alone, and where it was not refused under each of them; nothing else was touched.
pub record Clears {E : Type 0} (goes : Name → Bool) (old new : World) (result : Result (Unit {0}) E) : Type 0 where
  pub stays : Stays old new
  pub moments : IsTrue new.tells → Through old.story new.story (Follows (May old.story.now) (Thinner goes))
  pub gone : IsTrue new.tells → OnOk result (IsLive (λ name. if goes name then None else old.story.now.live name) new.story.now)
