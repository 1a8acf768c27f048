-- Files that are copied or removed name by name.
use Rattle.std.proofs.Common.{◌≡◌, ◌⊎◌, ⊎_elim, subst, inl, inr, ℕ, Bool, true, false, ◌||◌, List, [], ◌∷◌, ◌++◌, refl, sym, ◌∙◌, ap, String, is_some, string_bytes}
use Rattle.std.specs.Prelude.{Option, Some, None, option_map, bytes_eq, if◌then◌else◌}
use Rattle.std.specs.List.{list_any}
use Rattle.std.specs.BTreeMap.{BTreeMap}
use Rattle.std.specs.declared.alloc.Global.{Global}
use Rattle.std.proofs.lemmas.List.Folds.{list_any-append}
use Rattle.std.proofs.lemmas.Slice.Eq.{bytes_eq-Decides}
use Rattle.folder_base.specs.Disk.{Name, File, Names, put, lasting_file}
use Rattle.folder_base.specs.Files.{names_of, or_else, over, if_none, without}
use Rattle.folder_base.specs.Stop.{filled, filled_names}
use Rattle.folder_base.specs.declared.stored.Stored.{Stored}
use Rattle.folder_base.proofs.Images.{put_here, put_there, same_or_not, same_name}
use Rattle.folder_base.proofs.Listed.{key_names, keys_stand}

-- these names have what they have in the first map, the others what they have in the second
abbrev pub laid : List Name → Names → Names → Names
laid names from old = λ n. if list_any (bytes_eq n) names then from n else old n

swap_apart : (a b : Name) → bytes_eq a b ≡ false → bytes_eq b a ≡ false
swap_apart a b e = elim (same_or_not b a) [
  | inl same ↦ let f : bytes_eq a b ≡ true = ap (λ (x : Name). bytes_eq x b) (sym same.1) ∙ same_name b in absurd (cc)
  | inr differs ↦ differs
]

or_false : (b : Bool) → (b || false) ≡ b
or_false true = refl
or_false false = refl

or_true : (b : Bool) → (b || true) ≡ true
or_true true = refl
or_true false = refl

laid_at : (names : List Name) (from old : Names) (name n : Name) → laid (names ++ name ∷ []) from old n ≡ put (laid names from old) name (from name) n
laid_at names from old name n = elim (same_or_not name n) [
  | inl same ↦
      ap (λ (b : Bool). if b then from n else old n) (list_any-append (bytes_eq n) names (name ∷ [])
      ∙ ap (λ (m : Name). list_any (bytes_eq n) names || (bytes_eq n m || false)) same.1
      ∙ ap (λ (b : Bool). list_any (bytes_eq n) names || (b || false)) (same_name n) ∙ or_true (list_any (bytes_eq n) names))
      ∙ ap from (sym same.1) ∙ sym (put_here (laid names from old) name (from name)) ∙ ap (put (laid names from old) name (from name)) same.1
  | inr differs ↦
      ap (λ (b : Bool). if b then from n else old n) (list_any-append (bytes_eq n) names (name ∷ [])
      ∙ ap (λ (b : Bool). list_any (bytes_eq n) names || (b || false)) (swap_apart name n differs) ∙ or_false (list_any (bytes_eq n) names))
      ∙ sym (put_there (laid names from old) name n (from name) differs)
]

-- what holds of each name among these, and of the last one
pub any_or_last : (P : Name → Type 0) (names : List Name) (last n : Name) → (list_any (bytes_eq n) names ≡ true → P n) → P last → list_any (bytes_eq n) (names ++ last ∷ []) ≡ true → P n
any_or_last P names last n among at_last any = ⊎_elim among
    (λ same. subst P (sym ((bytes_eq-Decides n last).0 (sym (or_false (bytes_eq n last)) ∙ same))) at_last)
    (some_so (list_any (bytes_eq n) names) (bytes_eq n last || false) (sym (list_any-append (bytes_eq n) names (last ∷ [])) ∙ any))
  where
    some_so : (a b : Bool) → (a || b) ≡ true → (a ≡ true) ⊎ (b ≡ true)
    some_so true b e = inl refl
    some_so false b e = inr e

pub laid_more : (names : List Name) (from old : Names) (name : Name) → laid (names ++ name ∷ []) from old ≡ put (laid names from old) name (from name)
laid_more names from old name = λ i n. laid_at names from old name n i

module _ (from : BTreeMap (String Global) Stored) (old : Names) where
  pub laid_over : laid (key_names from) (names_of from) old ≡ over (names_of from) old
  laid_over = λ i n. (ap (λ (b : Bool). if b then names_of from n else old n) (keys_stand n from) ∙ by (names_of from n) (old n)) i
    where
      by : (o other : Option File) → (if is_some o then o else other) ≡ or_else o other
      by None other = refl
      by (Some f) other = refl

  pub laid_out : laid (key_names from) (λ _. None) old ≡ without (names_of from) old
  laid_out = λ i n. (ap (λ (b : Bool). if b then None else old n) (keys_stand n from) ∙ by (names_of from n) (old n)) i
    where
      by : (o other : Option File) → (if is_some o then None else other) ≡ if_none o other
      by None other = refl
      by (Some f) other = refl

  front_stands : (front rest : List Name) → front ++ rest ≡ key_names from → (n : Name) → list_any (bytes_eq n) front ≡ true → is_some (names_of from n) ≡ true
  front_stands front rest is n e =
      sym (keys_stand n from) ∙ ap (list_any (bytes_eq n)) (sym is) ∙ list_any-append (bytes_eq n) front rest ∙ ap (λ (b : Bool). b || list_any (bytes_eq n) rest) e

  any_next : (name : String Global) (front rest : List Name) → list_any (bytes_eq (string_bytes name)) (front ++ string_bytes name ∷ rest) ≡ true
  any_next name front rest =
      list_any-append (bytes_eq (string_bytes name)) front (string_bytes name ∷ rest)
      ∙ ap (λ (b : Bool). list_any (bytes_eq (string_bytes name)) front || (b || list_any (bytes_eq (string_bytes name)) rest)) (same_name (string_bytes name))
      ∙ or_true (list_any (bytes_eq (string_bytes name)) front)

  -- The next of the keys stands.
  pub next_stands : (name : String Global) (front rest : List Name) → front ++ string_bytes name ∷ rest ≡ key_names from → is_some (names_of from (string_bytes name)) ≡ true
  next_stands name front rest is =
      sym (keys_stand (string_bytes name) from) ∙ ap (list_any (bytes_eq (string_bytes name))) (sym is) ∙ any_next name front rest

  -- Some of them are copied, and elsewhere nothing has changed.
  pub laid_without : (front rest : List Name) → front ++ rest ≡ key_names from → without (names_of from) (laid front (names_of from) old) ≡ without (names_of from) old
  laid_without front rest is = λ i n. by n (names_of from n) (list_any (bytes_eq n) front) refl (front_stands front rest is n) i
    where
      by : (n : Name) (o : Option File) (b : Bool) → names_of from n ≡ o → (b ≡ true → is_some (names_of from n) ≡ true) → if_none o (if b then names_of from n else old n) ≡ if_none o (old n)
      by n (Some f) b e stands = refl
      by n None false e stands = refl
      by n None true e stands = let f : is_some (names_of from n) ≡ true = stands refl in let g : is_some (names_of from n) ≡ false = ap is_some e in absurd (cc)

  -- All of them are copied, as what a stop leaves of them.
  pub laid_filled : (fill : ℕ) → laid (key_names from) (filled_names fill (names_of from)) (λ _. None) ≡ filled_names fill (names_of from)
  laid_filled fill = λ i n. (ap (λ (b : Bool). if b then filled_names fill (names_of from) n else None) (keys_stand n from) ∙ by (names_of from n)) i
    where
      by : (o : Option File) → (if is_some o then option_map (λ f. lasting_file (filled fill f)) o else None) ≡ option_map (λ f. lasting_file (filled fill f)) o
      by None = refl
      by (Some f) = refl

over_nothing_at : (o : Option File) → or_else o None ≡ o
over_nothing_at None = refl
over_nothing_at (Some file) = refl

pub over_nothing : (names : Names) → over names (λ _. None) ≡ names
over_nothing names = λ i n. over_nothing_at (names n) i
