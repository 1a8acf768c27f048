-- What parts that are back have left in their places.
use Rattle.std.specs.Prelude.{◌≡◌, refl, Bool, false, ◌||◌, List, [], ◌∷◌, map, is_some, Option, None, ⊤}
use Rattle.std.specs.Coded.{×_prop, Π_prop, →_prop, Unit-prop, Coded, Coded-set, coded_ℕ, coded_list, coded×, coded_option, code_by}
use Rattle.folder_base.specs.Disk.{Name, Bytes, File, Names}
use Rattle.folder_base.specs.Files.{names_of, over}
use Rattle.folder_base.specs.Log.{told, newborn}
use Rattle.folder_base.specs.Parts.{is_part}
use Rattle.folder_base.specs.Story.{Part}
use Rattle.folder_base.specs.declared.place.Place.{Place}
use Rattle.folder_base.specs.declared.step.Step.{Step}

-- A place has the files that the part's steps tell, all of them the part's own.
abbrev pub IsPlaced : Part → Place → Type 0
IsPlaced part place =
    ((name : Name) → names_of place.files name ≡ (told (newborn part.birth) place.steps.items).now.live name)
    × ((name : Name) → is_part part.stem name ≡ false → names_of place.files name ≡ None)

-- so those of the first parts
abbrev pub ArePlaced : List Part → List Place → Type 0
ArePlaced parts [] = ⊤
ArePlaced [] (place ∷ places) = ⊥
ArePlaced (part ∷ parts) (place ∷ places) = IsPlaced part place × ArePlaced parts places

-- files as pairs of their bytes, so that two of them can be compared
coded_file : Coded File
coded_file = code_by (Bytes × Option Bytes) (coded× (coded_list coded_ℕ) (coded_option (coded_list coded_ℕ))) (λ file. (file.sure, file.more)) (λ p. record { sure = p.0; more = p.1 }) (λ file. refl)

-- It has one proof at most that places are those of parts.
pub ArePlaced-prop : (parts : List Part) (places : List Place) → IsProp (ArePlaced parts places)
ArePlaced-prop parts [] = Unit-prop
ArePlaced-prop [] (place ∷ places) = λ h. absurd h
ArePlaced-prop (part ∷ parts) (place ∷ places) =
    ×_prop (×_prop (Π_prop (λ name. Coded-set (coded_option coded_file) _ _)) (Π_prop (λ name. →_prop (Coded-set (coded_option coded_file) _ _)))) (ArePlaced-prop parts places)

-- the steps that each place holds
abbrev pub steps_in : List Place → List (List Step)
steps_in places = map (λ place. place.steps.items) places

-- The name stands in some place.
abbrev pub stands_in : List Place → Name → Bool
stands_in [] name = false
stands_in (place ∷ places) name = is_some (names_of place.files name) || stands_in places name

-- what stands in the places over what stands elsewhere
abbrev pub all_over : List Place → Names → Names
all_over [] names = names
all_over (place ∷ places) names = all_over places (over (names_of place.files) names)
