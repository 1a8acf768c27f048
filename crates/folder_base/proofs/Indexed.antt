-- A name's part is found by the fronts of the name that end before a point.
use Rattle.std.proofs.Common.{◌≡◌, ◌⊎◌, inl, inr, ⊎_elim, ℕ, zero, suc, ◌<◌, Bool, true, false, ◌&&◌, ◌||◌, List, [], ◌∷◌, ◌++◌, refl, sym, ◌∙◌, ap, subst, nat_eq, length, take, get_or, arith}
use Rattle.std.specs.Prelude.{Option, Some, None, IsSome, bytes_eq, slice_get, Vec}
use Rattle.std.specs.BTreeMap.{BTreeMap}
use Rattle.std.specs.declared.alloc.Global.{Global}
use Rattle.std.proofs.lemmas.Slice.Eq.{bytes_eq-Decides}
use Rattle.std.proofs.lemmas.Bool.Decides.{Decides-eqb}
use Rattle.folder_base.specs.Disk.{Name, begins}
use Rattle.folder_base.specs.Index.{place_of, IsIndex, FindsPart}
use Rattle.folder_base.specs.Parts.{is_part, is_in_some}
use Rattle.folder_base.proofs.Disjoint.{both_so, some_so, so_left, so_right}
use Rattle.folder_base.proofs.Images.{same_name}

-- where a point stands behind a front, the front is the stem of a part that answers for the name
pub front_begins : (name : Name) (at : ℕ) → at < length name → get_or name at 0 ≡ 46 → begins (take at name ++ 46 ∷ []) name ≡ true
front_begins [] at lt point = absurd (omega arith)
front_begins (c ∷ name) zero lt point = ap (λ (b : Bool). b && true) ((Decides-eqb 46 c).1 (sym point))
front_begins (c ∷ name) (suc at) lt point = λ i. (Decides-eqb c c).1 refl i && front_begins name at (omega arith) point i

pub front_part : (name : Name) (at : ℕ) → at < length name → get_or name at 0 ≡ 46 → is_part (take at name) name ≡ true
front_part name at lt point = so_right (bytes_eq (take at name) name) (begins (take at name ++ 46 ∷ []) name) (front_begins name at lt point)

-- a front of the name that ends before a point
pub record IsFront (stem name : Name) : Type 0 where
  pub short : length stem < length name
  pub point : get_or name (length stem) 0 ≡ 46
  pub front : take (length stem) name ≡ stem

stem_front : (stem name : Name) → begins (stem ++ 46 ∷ []) name ≡ true → IsFront stem name
stem_front [] [] e = absurd (cc)
stem_front [] (c ∷ name) e = record { short = omega arith; point = sym ((Decides-eqb 46 c).0 (both_so (nat_eq 46 c) true e).0); front = refl }
stem_front (d ∷ stem) [] e = absurd (cc)
stem_front (d ∷ stem) (c ∷ name) e =
    let both = both_so (nat_eq d c) (begins (stem ++ 46 ∷ []) name) e in
    let rest = stem_front stem name both.1 in
    let short : length stem < length name = rest.short in
    record { short = omega arith; point = rest.point; front = λ i. sym ((Decides-eqb d c).0 both.0) i ∷ rest.front i }

pub part_front : (stem name : Name) → is_part stem name ≡ true → (stem ≡ name) ⊎ IsFront stem name
part_front stem name e = ⊎_elim (λ same. inl ((bytes_eq-Decides stem name).0 same)) (λ more. inr (stem_front stem name more)) (some_so (bytes_eq stem name) (begins (stem ++ 46 ∷ []) name) e)

-- no stem that stands there is the name's
none_of : (stems : List Name) (name : Name) → ((at : ℕ) (stem : Name) → slice_get stems at ≡ Some stem → is_part stem name ≡ true → ⊥) → is_in_some stems name ≡ false
none_of [] name none = refl
none_of (stem ∷ stems) name none = by (is_part stem name) refl (none_of stems name (λ at s is. none (suc at) s is))
  where
    by : (b : Bool) → is_part stem name ≡ b → is_in_some stems name ≡ false → (b || is_in_some stems name) ≡ false
    by true e rest = absurd (none 0 stem refl e)
    by false e rest = rest

module _ (stems : List Name) (index : BTreeMap (Vec ℕ Global) ℕ) (is : IsIndex stems index) (name : Name) where
  pub found_front : (at place : ℕ) → at < length name → get_or name at 0 ≡ 46 → place_of index (take at name) ≡ Some place → FindsPart stems name (Some place)
  found_front at place lt point found = (take at name, is.only place (take at name) found, front_part name at lt point)

  pub found_whole : (place : ℕ) → place_of index name ≡ Some place → FindsPart stems name (Some place)
  found_whole place found = (name, is.only place name found, so_left (bytes_eq name name) (begins (name ++ 46 ∷ []) name) (same_name name))

  none_stands : (stem : Name) (o : Option ℕ) → place_of index stem ≡ o → o ≡ None → IsSome (place_of index stem) → ⊥
  none_stands stem (Some place) e none some = absurd (cc)
  none_stands stem None e none some = let some' : IsSome {T = ℕ} None = subst (λ (o : Option ℕ). IsSome o) e some in absurd (cc)

  pub found_none : ((at : ℕ) → at < length name → get_or name at 0 ≡ 46 → place_of index (take at name) ≡ None) → place_of index name ≡ None → is_in_some stems name ≡ false
  found_none fronts whole = none_of stems name (λ at stem stands part. ⊎_elim
      (λ same. none_stands stem None (ap (place_of index) same ∙ whole) refl (is.each at stem stands))
      (λ (front : IsFront stem name). none_stands stem None (ap (place_of index) (sym front.front) ∙ fronts (length stem) front.short front.point) refl (is.each at stem stands))
      (part_front stem name part))

  -- the name itself, once its fronts have been asked for
  pub found_last : (o : Option ℕ) → o ≡ place_of index name → ((at : ℕ) → at < length name → get_or name at 0 ≡ 46 → place_of index (take at name) ≡ None) → FindsPart stems name o
  found_last None e fronts = found_none fronts (sym e)
  found_last (Some place) e fronts = found_whole place (sym e)
