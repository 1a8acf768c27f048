-- Parts that are put behind the others, one after another.
use Rattle.std.proofs.Common.{◌≡◌, ◌⊎◌, inl, inr, ⊎_elim, ℕ, zero, suc, ◌+◌, ◌≤◌, Bool, true, false, not, ◌||◌, List, [], ◌∷◌, map, length, refl, sym, ◌∙◌, ap, subst, arith}
use Rattle.std.specs.Prelude.{Some, slice_get, drop}
use Rattle.std.proofs.lemmas.List.{drop_all, drop_more}
use Rattle.std.proofs.lemmas.Option.{slice_get_within, get_or_from_slice_get}
use Rattle.folder_base.specs.Disk.{Name, Disk}
use Rattle.folder_base.specs.Log.{told, newborn}
use Rattle.folder_base.specs.Parts.{is_part, is_in_some, inside, together, AreApart}
use Rattle.folder_base.specs.Rejoin.{parts_now, IsPartOn}
use Rattle.folder_base.specs.Story.{Story, gathered}
use Rattle.folder_base.specs.Undo.{IsReplayed, HoldsOnly}
use Rattle.folder_base.specs.declared.replay.Replay.{Replay}
use Rattle.folder_base.specs.declared.step.Step.{Step}
use Rattle.folder_base.proofs.Disjoint.{disjoint}
use Rattle.folder_base.proofs.Parted.{AreDisjoint}
use Rattle.folder_base.proofs.Rejoining.{holds_weaker}

-- The first parts are back, and none of the others has a name here.
pub record IsJoined (birth rest : Disk) (stems : List Name) (lists : List (List Step)) (at : ℕ) (replay : Replay) : Type 0 where
  pub now : Disk
  pub replayed : IsReplayed now replay
  pub others : HoldsOnly (λ name. not (is_in_some (drop at stems) name) ≡ true) replay
  pub same : together now (parts_now birth (drop at stems) (drop at lists)) ≡ together rest (parts_now birth stems lists)

drop_stands : {X : Type 0} (xs : List X) (at : ℕ) (x : X) → slice_get xs at ≡ Some x → drop at xs ≡ x ∷ drop (at + 1) xs
drop_stands xs at x stands = drop_more xs at x (slice_get_within xs at x stands) ∙ ap (λ y. y ∷ drop (at + 1) xs) (get_or_from_slice_get xs at x x stands)

-- the first of those that are left
pub first_left : {X : Type 0} (xs : List X) (at : ℕ) (x : X) (later : List X) → drop at xs ≡ x ∷ later → (slice_get xs at ≡ Some x) × (later ≡ drop (at + 1) xs)
first_left [] zero x later e = absurd (cc)
first_left [] (suc at) x later e = absurd (cc)
first_left (y ∷ xs) zero x later e = let first : y ≡ x = cc in let others : xs ≡ later = cc in (ap (λ z. Some z) first, sym others)
first_left {X} (y ∷ xs) (suc at) x later e =
    let left = first_left xs at x later e in
    let more : suc (at + 1) ≡ suc at + 1 = omega arith in
    (left.0, left.1 ∙ ap (λ (n : ℕ). drop n (y ∷ xs)) more)

pub none_left : {X : Type 0} (xs : List X) (at : ℕ) → drop at xs ≡ [] → length xs ≤ at
none_left [] at e = omega arith
none_left (y ∷ xs) zero e = absurd (cc)
none_left (y ∷ xs) (suc at) e = let few = none_left xs at e in omega (arith, few)

both_not : (a b : Bool) → not (a || b) ≡ true → (not a ≡ true) × (not b ≡ true)
both_not true b e = absurd (cc)
both_not false b e = (refl, e)

is_not : (b : Bool) → (b ≡ true → ⊥) → not b ≡ true
is_not true h = absurd (h refl)
is_not false h = refl

not_both : (b : Bool) → b ≡ false → b ≡ true → ⊥
not_both true e f = absurd (cc)
not_both false e f = absurd (cc)

not_later : (stems later : List Name) (at : ℕ) (stem : Name) → AreDisjoint stems → drop at stems ≡ stem ∷ later → (name : Name) → is_part stem name ≡ true → not (is_in_some later name) ≡ true
not_later [] later zero stem apart are name own = absurd (cc)
not_later [] later (suc at) stem apart are name own = absurd (cc)
not_later (first ∷ stems) later zero stem apart are name own =
    is_not (is_in_some later name) (λ e.
    let first_is : first ≡ stem = cc in
    let later_is : stems ≡ later = cc in
    not_both (is_part first name) (apart.0 name (ap (λ (l : List Name). is_in_some l name) later_is ∙ e)) (ap (λ (s : Name). is_part s name) first_is ∙ own))
not_later (first ∷ stems) later (suc at) stem apart are name own = not_later stems later at stem apart.1 are name own

-- one part more
pub joined_more : (birth rest : Disk) (stems : List Name) (lists : List (List Step)) (at : ℕ) (stem : Name) (steps : List Step) (old new : Replay) → AreApart stems
    → slice_get stems at ≡ Some stem → slice_get lists at ≡ Some steps → IsJoined birth rest stems lists at old
    → ((now : Disk) → IsReplayed now old → HoldsOnly (λ name. not (is_part stem name) ≡ true) old → IsPartOn stem (told (newborn (inside stem birth)) steps).now now old new)
    → IsJoined birth rest stems lists (at + 1) new
joined_more birth rest stems lists at stem steps old new apart stands made was joins =
    let later = drop (at + 1) stems in
    let stems_are : drop at stems ≡ stem ∷ later = drop_stands stems at stem stands in
    let lists_are : drop at lists ≡ steps ∷ drop (at + 1) lists = drop_stands lists at steps made in
    let others : HoldsOnly (λ name. not (is_in_some (stem ∷ later) name) ≡ true) old = subst (λ (l : List Name). HoldsOnly (λ name. not (is_in_some l name) ≡ true) old) stems_are was.others in
    let on = joins was.now was.replayed (holds_weaker (λ name. not (is_in_some (stem ∷ later) name) ≡ true) (λ name. not (is_part stem name) ≡ true) old
    (λ name e. (both_not (is_part stem name) (is_in_some later name) e).0) others) in
    record {
      now = _;
      replayed = on.replayed;
      others = on.holds (λ name. not (is_in_some later name)) (not_later stems later at stem (disjoint stems apart) stems_are)
          (holds_weaker (λ name. not (is_in_some (stem ∷ later) name) ≡ true) (λ name. not (is_in_some later name) ≡ true) old
          (λ name e. (both_not (is_part stem name) (is_in_some later name) e).1) others);
      same = (λ i. together was.now (parts_now birth (sym stems_are i) (sym lists_are i))) ∙ was.same;
    }

pub joined_none : (birth rest : Disk) (stems : List Name) (lists : List (List Step)) (replay : Replay) → IsReplayed rest replay → HoldsOnly (λ name. not (is_in_some stems name) ≡ true) replay
    → IsJoined birth rest stems lists 0 replay
joined_none birth rest stems lists replay replayed others = record { now = rest; replayed = replayed; others = others; same = refl }

no_parts : (birth : Disk) (stems : List Name) (lists : List (List Step)) → (stems ≡ []) ⊎ (lists ≡ []) → parts_now birth stems lists ≡ []
no_parts birth [] lists h = refl
no_parts birth (stem ∷ stems) [] h = refl
no_parts birth (stem ∷ stems) (steps ∷ lists) (inl h) = absurd (cc)
no_parts birth (stem ∷ stems) (steps ∷ lists) (inr h) = absurd (cc)

-- all of them
pub joined_all : (birth rest : Disk) (stems : List Name) (lists : List (List Step)) (at : ℕ) (replay : Replay) → (length stems ≤ at) ⊎ (length lists ≤ at) → IsJoined birth rest stems lists at replay
    → IsReplayed (together rest (parts_now birth stems lists)) replay
joined_all birth rest stems lists at replay end was =
    let none : parts_now birth (drop at stems) (drop at lists) ≡ [] = no_parts birth (drop at stems) (drop at lists) (⊎_elim (λ h. inl (drop_all at stems h)) (λ h. inr (drop_all at lists h)) end) in
    subst (λ (d : Disk). IsReplayed d replay) (sym (ap (together was.now) none) ∙ was.same) was.replayed

pub gathered_now : (since : ℕ) (parts : List (Name × Story)) (story : Story) → (gathered since parts story).now ≡ together story.now (map (λ each. (each.0, each.1.now)) parts)
gathered_now since [] story = refl
gathered_now since (part ∷ parts) story = refl
