-- The files of parts that are back, over those of the rest.
use Rattle.std.proofs.Common.{◌≡◌, ℕ, zero, suc, Bool, true, false, ◌||◌, List, [], ◌∷◌, ◌++◌, map, refl, sym, ◌∙◌, ap, subst, is_some, length}
use Rattle.std.specs.Prelude.{Option, Some, None, if◌then◌else◌, slice_get, option_and_then}
use Rattle.folder_base.specs.Disk.{Name, File, Names, Disk}
use Rattle.folder_base.specs.Files.{names_of, or_else, over, if_none, without}
use Rattle.folder_base.specs.Log.{told, newborn, handed, parts_told}
use Rattle.folder_base.specs.Parts.{is_part, is_in_some, joined, together}
use Rattle.folder_base.specs.Places.{IsPlaced, ArePlaced, steps_in, stands_in, all_over}
use Rattle.folder_base.specs.Story.{Part, Story, stems, gathered}
use Rattle.folder_base.specs.declared.place.Place.{Place}
use Rattle.folder_base.proofs.Disjoint.{so_left, so_right}
use Rattle.folder_base.proofs.Parted.{AreDisjoint}

-- without the names that stand in the places
abbrev pub bare : List Place → Names → Names
bare places names = λ name. if stands_in places name then None else names name

stands_append : (front : List Place) (place : Place) (name : Name) → stands_in (front ++ place ∷ []) name ≡ (stands_in front name || is_some (names_of place.files name))
stands_append [] place name = or_false (is_some (names_of place.files name))
  where
    or_false : (b : Bool) → (b || false) ≡ b
    or_false true = refl
    or_false false = refl
stands_append (first ∷ front) place name = ap (λ (b : Bool). is_some (names_of first.files name) || b) (stands_append front place name) ∙ assoc (is_some (names_of first.files name))
  where
    assoc : (a : Bool) → (a || (stands_in front name || is_some (names_of place.files name))) ≡ ((a || stands_in front name) || is_some (names_of place.files name))
    assoc true = refl
    assoc false = refl

pub bare_more : (front : List Place) (place : Place) (names : Names) → bare (front ++ place ∷ []) names ≡ without (names_of place.files) (bare front names)
bare_more front place names = λ i name. (ap (λ (b : Bool). if b then None else names name) (stands_append front place name) ∙ by (stands_in front name) (names_of place.files name) (names name)) i
  where
    by : (b : Bool) (o v : Option File) → (if (b || is_some o) then None else v) ≡ if_none o (if b then None else v)
    by true None v = refl
    by true (Some f) v = refl
    by false None v = refl
    by false (Some f) v = refl

pub over_more : (front : List Place) (place : Place) (names : Names) → all_over (front ++ place ∷ []) names ≡ over (names_of place.files) (all_over front names)
over_more [] place names = refl
over_more (first ∷ front) place names = over_more front place (over (names_of first.files) names)

-- what does not stand in the places does not stand in one of them
pub not_in_place : (places : List Place) (at : ℕ) (place : Place) (name : Name) → slice_get places at ≡ Some place → stands_in places name ≡ false → names_of place.files name ≡ None
not_in_place [] at place name e out = absurd (cc)
not_in_place (first ∷ places) zero place name e out = by (names_of first.files name) refl out
  where
    first_is : first ≡ place
    first_is = cc

    by : (o : Option File) → names_of first.files name ≡ o → (is_some o || stands_in places name) ≡ false → names_of place.files name ≡ None
    by None is h = ap (λ (p : Place). names_of p.files name) (sym first_is) ∙ is
    by (Some f) is h = absurd (cc)
not_in_place (first ∷ places) (suc at) place name e out = not_in_place places at place name e (right (is_some (names_of first.files name)) out)
  where
    right : (a : Bool) → (a || stands_in places name) ≡ false → stands_in places name ≡ false
    right true h = absurd (cc)
    right false h = h

pub kept_apart : (from old new : Names) (name : Name) → from name ≡ None → without from new ≡ without from old → new name ≡ old name
kept_apart from old new name none same =
    sym (ap (λ (o : Option File). if_none o (new name)) none) ∙ ap (λ (m : Names). m name) same ∙ ap (λ (o : Option File). if_none o (old name)) none

pub handed_stems : (disk : Disk) (names : List Name) → stems (map (handed disk) names) ≡ names
handed_stems disk [] = refl
handed_stems disk (name ∷ names) = ap (λ (l : List Name). name ∷ l) (handed_stems disk names)

-- none of the first names stands in the second
abbrev pub LacksAll : List Name → Names → Type 0
LacksAll names live = (name : Name) → is_in_some names name ≡ true → live name ≡ None

module _ (part : Part) (place : Place) (placed : IsPlaced part place) (rest : Disk) where
  abbrev part_now : Disk
  part_now = (told (newborn part.birth) place.steps.items).now

  over_join : ((name : Name) → is_part part.stem name ≡ true → rest.live name ≡ None) → over (names_of place.files) rest.live ≡ (joined (is_part part.stem) part_now rest).live
  over_join lacks = λ i name. by name (is_part part.stem name) refl i
    where
      alone : (o v : Option File) → v ≡ None → or_else o v ≡ o
      alone None v e = e
      alone (Some f) v e = refl

      by : (name : Name) (b : Bool) → is_part part.stem name ≡ b → or_else (names_of place.files name) (rest.live name) ≡ (if is_part part.stem name then part_now.live name else rest.live name)
      by name true e = alone (names_of place.files name) (rest.live name) (lacks name e) ∙ placed.0 name ∙ sym (ap (λ (b : Bool). if b then part_now.live name else rest.live name) e)
      by name false e = ap (λ (o : Option File). or_else o (rest.live name)) (placed.1 name e) ∙ sym (ap (λ (b : Bool). if b then part_now.live name else rest.live name) e)

  joined_lacks : (names : List Name) → ((name : Name) → is_in_some names name ≡ true → is_part part.stem name ≡ false) → LacksAll names rest.live → LacksAll names (joined (is_part part.stem) part_now rest).live
  joined_lacks names apart lacks name e = ap (λ (b : Bool). if b then part_now.live name else rest.live name) (apart name e) ∙ lacks name e

pub together_live : (parts : List Part) (places : List Place) → ArePlaced parts places → AreDisjoint (stems parts) → (rest : Disk) → LacksAll (stems parts) rest.live
    → all_over places rest.live ≡ (together rest (map (λ each. (each.0, each.1.now)) (parts_told parts (steps_in places)))).live
together_live [] [] placed apart rest lacks = refl
together_live (part ∷ parts) [] placed apart rest lacks = refl
together_live [] (place ∷ places) placed apart rest lacks = absurd placed
together_live (part ∷ parts) (place ∷ places) placed apart rest lacks =
    ap (all_over places) (over_join part place placed.0 rest (λ name e. lacks name (so_left (is_part part.stem name) (is_in_some (stems parts) name) e)))
    ∙ together_live parts places placed.1 apart.1 (joined (is_part part.stem) (told (newborn part.birth) place.steps.items).now rest)
    (joined_lacks part place placed.0 rest (stems parts) apart.0 (λ name e. lacks name (so_right (is_part part.stem name) (is_in_some (stems parts) name) e)))

-- The files of all together are those that the gathered story tells.
pub gathered_live : (since : ℕ) (parts : List Part) (places : List Place) → ArePlaced parts places → AreDisjoint (stems parts) → (rest : Story) → LacksAll (stems parts) rest.now.live
    → all_over places rest.now.live ≡ (gathered since (parts_told parts (steps_in places)) rest).now.live
gathered_live since [] [] placed apart rest lacks = refl
gathered_live since (part ∷ parts) [] placed apart rest lacks = refl
gathered_live since [] (place ∷ places) placed apart rest lacks = absurd placed
gathered_live since (part ∷ parts) (place ∷ places) placed apart rest lacks = together_live (part ∷ parts) (place ∷ places) placed apart rest.now lacks

-- What does not stand in the places is as it was, once their files are taken away again.
pub restored : (places : List Place) (old new : Names) → ((name : Name) → stands_in places name ≡ true → old name ≡ None) → ((name : Name) → stands_in places name ≡ false → new name ≡ old name) → bare places new ≡ old
restored places old new lacks others = λ i name. by name (stands_in places name) refl i
  where
    by : (name : Name) (b : Bool) → stands_in places name ≡ b → (if stands_in places name then None else new name) ≡ old name
    by name true e = ap (λ (b : Bool). if b then None else new name) e ∙ sym (lacks name e)
    by name false e = ap (λ (b : Bool). if b then None else new name) e ∙ others name e

-- what stands in a place is a part's
pub placed_part : (parts : List Part) (places : List Place) → ArePlaced parts places → (name : Name) → stands_in places name ≡ true → is_in_some (stems parts) name ≡ true
placed_part parts [] placed name e = absurd (cc)
placed_part [] (place ∷ places) placed name e = absurd placed
placed_part (part ∷ parts) (place ∷ places) placed name e = by (is_part part.stem name) refl (placed_part parts places placed.1 name)
  where
    gone : is_part part.stem name ≡ false → (is_some (names_of place.files name) || stands_in places name) ≡ true → stands_in places name ≡ true
    gone f h = ap (λ (o : Option File). is_some o || stands_in places name) (sym (placed.0.1 name f)) ∙ h

    by : (b : Bool) → is_part part.stem name ≡ b → (stands_in places name ≡ true → is_in_some (stems parts) name ≡ true) → (is_part part.stem name || is_in_some (stems parts) name) ≡ true
    by true f behind = so_left (is_part part.stem name) (is_in_some (stems parts) name) f
    by false f behind = so_right (is_part part.stem name) (is_in_some (stems parts) name) (behind (gone f e))

pub over_none : (places : List Place) (names : Names) (name : Name) → stands_in places name ≡ false → all_over places names name ≡ names name
over_none [] names name e = refl
over_none (place ∷ places) names name e =
    over_none places (over (names_of place.files) names) name (neither (is_some (names_of place.files name)) e).1 ∙ by (names_of place.files name) (neither (is_some (names_of place.files name)) e).0
  where
    neither : (a : Bool) → (a || stands_in places name) ≡ false → (a ≡ false) × (stands_in places name ≡ false)
    neither true h = absurd (cc)
    neither false h = (refl, h)

    by : (o : Option File) → is_some o ≡ false → or_else o (names name) ≡ names name
    by None h = refl
    by (Some f) h = absurd (cc)

-- A name that is no part's does not stand in the places.
pub out_of_places : (parts : List Part) (places : List Place) → ArePlaced parts places → (name : Name) → is_in_some (stems parts) name ≡ false → stands_in places name ≡ false
out_of_places parts places placed name e = by (stands_in places name) refl
  where
    by : (b : Bool) → stands_in places name ≡ b → stands_in places name ≡ false
    by true h = let f : is_in_some (stems parts) name ≡ true = placed_part parts places placed name h in absurd (cc)
    by false h = h

pub in_some : (names : List Name) (at : ℕ) (stem name : Name) → slice_get names at ≡ Some stem → is_part stem name ≡ true → is_in_some names name ≡ true
in_some [] at stem name e part = absurd (cc)
in_some (first ∷ names) zero stem name e part = let same : first ≡ stem = cc in so_left (is_part first name) (is_in_some names name) (ap (λ (s : Name). is_part s name) same ∙ part)
in_some (first ∷ names) (suc at) stem name e part = so_right (is_part first name) (is_in_some names name) (in_some names at stem name e part)

not_both : (a b : Bool) → (b ≡ true → a ≡ false) → a ≡ true → b ≡ false
not_both a true h e = let f : a ≡ false = h refl in absurd (cc)
not_both a false h e = refl

-- At a part's name stands what stands in its place; nothing, where its place is empty.
pub over_at : (parts : List Part) (places : List Place) → ArePlaced parts places → AreDisjoint (stems parts) → (at : ℕ) (stem name : Name) → slice_get (stems parts) at ≡ Some stem → is_part stem name ≡ true
    → (names : Names) → names name ≡ None → (place : Option Place) → slice_get places at ≡ place → all_over places names name ≡ option_and_then (λ (p : Place). names_of p.files name) place
over_at parts [] placed apart at stem name stands part names none place is = none ∙ ap (option_and_then (λ (p : Place). names_of p.files name)) is
over_at [] (q ∷ places) placed apart at stem name stands part names none place is = absurd placed
over_at (p ∷ parts) (q ∷ places) placed apart zero stem name stands part names none place is =
    let same : p.stem ≡ stem = cc in
    let others : is_in_some (stems parts) name ≡ false = not_both (is_part p.stem name) (is_in_some (stems parts) name) (apart.0 name) (ap (λ (s : Name). is_part s name) same ∙ part) in
    over_none places (over (names_of q.files) names) name (out_of_places parts places placed.1 name others)
    ∙ alone (names_of q.files name) ∙ ap (option_and_then (λ (r : Place). names_of r.files name)) is
  where
    alone : (o : Option File) → or_else o (names name) ≡ o
    alone None = none
    alone (Some f) = refl
over_at (p ∷ parts) (q ∷ places) placed apart (suc at) stem name stands part names none place is =
    let not_here : is_part p.stem name ≡ false = apart.0 name (in_some (stems parts) at stem name stands part) in
    over_at parts places placed.1 apart.1 at stem name stands part (over (names_of q.files) names) (ap (λ (o : Option File). or_else o (names name)) (placed.0.1 name not_here) ∙ none) place is

-- the place of one more part
pub placed_more : (parts : List Part) (places : List Place) (part : Part) (place : Place) → ArePlaced parts places → slice_get parts (length places) ≡ Some part → IsPlaced part place → ArePlaced parts (places ++ place ∷ [])
placed_more [] [] part place placed next is = absurd (cc)
placed_more (p ∷ parts) [] part place placed next is = let same : part ≡ p = cc in (subst (λ (x : Part). IsPlaced x place) same is, tt)
placed_more [] (q ∷ places) part place placed next is = absurd placed
placed_more (p ∷ parts) (q ∷ places) part place placed next is = (placed.0, placed_more parts places part place placed.1 next is)
