-- Where stems are apart, no name is two parts'.
use Rattle.std.proofs.Common.{◌≡◌, ◌⊎◌, inl, inr, ⊎_elim, Bool, true, false, ◌&&◌, ◌||◌, List, [], ◌∷◌, ◌++◌, refl, sym, ◌∙◌, ap, nat_eq}
use Rattle.std.specs.Prelude.{bytes_eq, All}
use Rattle.std.proofs.lemmas.Slice.Eq.{bytes_eq-Decides}
use Rattle.std.proofs.lemmas.Bool.Decides.{Decides-eqb}
use Rattle.std.proofs.lemmas.List.Elements.{All-head, All-tail}
use Rattle.folder_base.specs.Disk.{Name, begins}
use Rattle.folder_base.specs.Parts.{is_part, is_in_some, AreApart}
use Rattle.folder_base.proofs.Parted.{AreDisjoint}

pub both_so : (a b : Bool) → (a && b) ≡ true → (a ≡ true) × (b ≡ true)
both_so true b e = (refl, e)
both_so false b e = cc

pub some_so : (a b : Bool) → (a || b) ≡ true → (a ≡ true) ⊎ (b ≡ true)
some_so true b e = inl refl
some_so false b e = inr e

pub neither_so : (a b : Bool) → (a || b) ≡ false → (a ≡ false) × (b ≡ false)
neither_so true b e = absurd (cc)
neither_so false b e = (refl, e)

pub so_left : (a b : Bool) → a ≡ true → (a || b) ≡ true
so_left a b e = ap (λ (v : Bool). v || b) e

pub so_right : (a b : Bool) → b ≡ true → (a || b) ≡ true
so_right true b e = refl
so_right false b e = e

-- two beginnings of one name: one begins with the other
one_begins : (p q name : Name) → begins p name ≡ true → begins q name ≡ true → (begins p q ≡ true) ⊎ (begins q p ≡ true)
one_begins [] q name e f = inl refl
one_begins (c ∷ p) [] name e f = inr refl
one_begins (c ∷ p) (d ∷ q) [] e f = cc
one_begins (c ∷ p) (d ∷ q) (x ∷ name) e f =
    let a = both_so (nat_eq c x) (begins p name) e in
    let b = both_so (nat_eq d x) (begins q name) f in
    let same : c ≡ d = (Decides-eqb c x).0 a.0 ∙ sym ((Decides-eqb d x).0 b.0) in
    let here : nat_eq c d ≡ true = (Decides-eqb c d).1 same in
    let there : nat_eq d c ≡ true = (Decides-eqb d c).1 (sym same) in
    ⊎_elim (λ g. inl (λ i. here i && g i)) (λ g. inr (λ i. there i && g i)) (one_begins p q name a.1 b.1)

nothing_begins : (cs : Name) → begins (cs ++ 46 ∷ []) [] ≡ true → ⊥
nothing_begins [] e = absurd (cc)
nothing_begins (c ∷ cs) e = absurd (cc)

-- a stem and its point, within another's
within_stem : (a b : Name) → begins (a ++ 46 ∷ []) (b ++ 46 ∷ []) ≡ true → is_part a b ≡ true
within_stem [] [] e = refl
within_stem [] (d ∷ ds) e = e
within_stem (c ∷ cs) [] e = absurd (nothing_begins cs (both_so (nat_eq c 46) (begins (cs ++ 46 ∷ []) []) e).1)
within_stem (c ∷ cs) (d ∷ ds) e =
    let h = both_so (nat_eq c d) (begins (cs ++ 46 ∷ []) (ds ++ 46 ∷ [])) e in
    ⊎_elim
    (λ same. so_left (bytes_eq (c ∷ cs) (d ∷ ds)) (begins ((c ∷ cs) ++ 46 ∷ []) (d ∷ ds)) (λ i. h.0 i && same i))
    (λ more. so_right (bytes_eq (c ∷ cs) (d ∷ ds)) (begins ((c ∷ cs) ++ 46 ∷ []) (d ∷ ds)) (λ i. h.0 i && more i))
    (some_so (bytes_eq cs ds) (begins (cs ++ 46 ∷ []) ds) (within_stem cs ds h.1))

-- no name is two parts', where neither stem is the other part's
pub apart_names : (a b : Name) → is_part a b ≡ false → is_part b a ≡ false → (name : Name) → is_part a name ≡ true → is_part b name ≡ true → ⊥
apart_names a b ab ba name e f = ⊎_elim
    (λ is_a. bad (is_part b a) ba (ap (is_part b) ((bytes_eq-Decides a name).0 is_a) ∙ f))
    (λ in_a. ⊎_elim
    (λ is_b. bad (is_part a b) ab (ap (is_part a) ((bytes_eq-Decides b name).0 is_b) ∙ e))
    (λ in_b. ⊎_elim
    (λ g. bad (is_part a b) ab (within_stem a b g))
    (λ g. bad (is_part b a) ba (within_stem b a g))
    (one_begins (a ++ 46 ∷ []) (b ++ 46 ∷ []) name in_a in_b))
    (some_so (bytes_eq b name) (begins (b ++ 46 ∷ []) name) f))
    (some_so (bytes_eq a name) (begins (a ++ 46 ∷ []) name) e)
  where
    bad : (v : Bool) → v ≡ false → v ≡ true → ⊥
    bad true no_ yes_ = absurd (cc)
    bad false no_ yes_ = absurd (cc)

module _ (stem : Name) where
  abbrev Apart : Name → Type 0
  Apart other = (is_part stem other ≡ false) × (is_part other stem ≡ false)

  not_in : (stems : List Name) → All Apart stems → (name : Name) → is_in_some stems name ≡ true → is_part stem name ≡ false
  not_in [] all name e = absurd (cc)
  not_in (other ∷ stems) all name e = ⊎_elim
      (λ here. by (is_part stem name) refl here)
      (λ there. not_in stems (All-tail Apart other stems all) name there)
      (some_so (is_part other name) (is_in_some stems name) e)
    where
      by : (v : Bool) → is_part stem name ≡ v → is_part other name ≡ true → is_part stem name ≡ false
      by true is here = absurd (apart_names stem other (All-head Apart other stems all).0 (All-head Apart other stems all).1 name is here)
      by false is here = is

-- What `fan` asks of its stems makes its parts disjoint.
pub disjoint : (stems : List Name) → AreApart stems → AreDisjoint stems
disjoint [] apart = tt
disjoint (stem ∷ stems) apart = (not_in stem stems apart.0, disjoint stems apart.1)
