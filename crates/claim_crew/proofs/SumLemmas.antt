-- Lists weighed, and read by `get_elem?`.
use Rattle.std.proofs.Common.{◌≡◌, ◌≢◌, ℕ, zero, suc, ◌+◌, ◌<◌, ◌≤◌, ◌⊎◌, inl, inr, List, [], ◌∷◌, ◌++◌, map, length, set, refl, sym, ap, ◌∙◌, arith, take, get_or, Bool, false, add-one}
use mathlib.Core.Option.{some, some-injective, some-ne-none}
use lib.ListN.{get_elem?}
use Rattle.claim_crew.specs.Claimed.{sum_of}

module _ {A : Type 0} where
  pub sum_of-append : (g : A → ℕ) (l m : List A) → sum_of g (l ++ m) ≡ sum_of g l + sum_of g m
  sum_of-append g [] m = omega arith
  sum_of-append g (x ∷ xs) m = omega (arith, sum_of-append g xs m)

  pub sum_of_set : (g : A → ℕ) (l : List A) (i : ℕ) (a b : A) → get_elem? l i ≡ some a → sum_of g (set l i b) + g a ≡ sum_of g l + g b
  sum_of_set g [] i a b e = absurd (some-ne-none a (sym e))
  sum_of_set g (x ∷ xs) zero a b e = omega (arith, ap g (some-injective x a e))
  sum_of_set g (x ∷ xs) (suc i) a b e = omega (arith, sum_of_set g xs i a b e)

  pub sum_of_le : (f g : A → ℕ) (l : List A) → ((i : ℕ) (a : A) → get_elem? l i ≡ some a → f a ≤ g a) → sum_of f l ≤ sum_of g l
  sum_of_le f g [] h = omega arith
  sum_of_le f g (x ∷ xs) h = omega (arith, h 0 x refl, sum_of_le f g xs (λ i. h (suc i)))

  pub sum_of_lt : (f g : A → ℕ) (l : List A) (i : ℕ) (a : A) → get_elem? l i ≡ some a → f a < g a → ((j : ℕ) (b : A) → get_elem? l j ≡ some b → f b ≤ g b) → sum_of f l < sum_of g l
  sum_of_lt f g [] i a e lt h = absurd (some-ne-none a (sym e))
  sum_of_lt f g (x ∷ xs) zero a e lt h = omega (arith, ap f (some-injective x a e), ap g (some-injective x a e), sum_of_le f g xs (λ j. h (suc j)))
  sum_of_lt f g (x ∷ xs) (suc i) a e lt h = omega (arith, h 0 x refl, sum_of_lt f g xs i a e lt (λ j. h (suc j)))

  pub sum_of_at : (g : A → ℕ) (l : List A) (i : ℕ) (a : A) → get_elem? l i ≡ some a → g a ≤ sum_of g l
  sum_of_at g [] i a e = absurd (some-ne-none a (sym e))
  sum_of_at g (x ∷ xs) zero a e = omega (arith, ap g (some-injective x a e))
  sum_of_at g (x ∷ xs) (suc i) a e = omega (arith, sum_of_at g xs i a e)

  -- where a has the whole of f, all others have none of it
  pub sum_of_others : (f : A → ℕ) (l : List A) (i j : ℕ) (a b : A) → get_elem? l i ≡ some a → sum_of f l ≤ f a → j ≢ i → get_elem? l j ≡ some b → f b ≡ 0
  sum_of_others f [] i j a b e le ne e' = absurd (some-ne-none a (sym e))
  sum_of_others f (x ∷ xs) zero zero a b e le ne e' = absurd (ne refl)
  sum_of_others f (x ∷ xs) zero (suc j) a b e le ne e' = omega (arith, ap f (some-injective x a e), sum_of_at f xs j b e')
  sum_of_others f (x ∷ xs) (suc i) zero a b e le ne e' = omega (arith, ap f (some-injective x b e'), sum_of_at f xs i a e)
  sum_of_others f (x ∷ xs) (suc i) (suc j) a b e le ne e' = sum_of_others f xs i j a b e (omega arith) (λ s. ne (ap suc s)) e'

  pub sum_of_none : (g : A → ℕ) (l : List A) → ((j : ℕ) (b : A) → get_elem? l j ≡ some b → g b ≡ 0) → sum_of g l ≡ 0
  sum_of_none g [] h = refl
  sum_of_none g (x ∷ xs) h = omega (arith, h 0 x refl, sum_of_none g xs (λ j. h (suc j)))

  pub sum_of_alone : (g : A → ℕ) (l : List A) (i : ℕ) (a : A) → get_elem? l i ≡ some a → ((j : ℕ) (b : A) → j ≢ i → get_elem? l j ≡ some b → g b ≡ 0) → sum_of g l ≡ g a
  sum_of_alone g [] i a e h = absurd (some-ne-none a (sym e))
  sum_of_alone g (x ∷ xs) zero a e h = omega (arith, ap g (some-injective x a e), sum_of_none g xs (λ j b. h (suc j) b (λ s. omega arith)))
  sum_of_alone g (x ∷ xs) (suc i) a e h = omega (arith, h 0 x (λ s. omega arith) refl, sum_of_alone g xs i a e (λ j b ne. h (suc j) b (λ s. ne (omega arith))))

  -- what weighs something stands somewhere
  pub sum_of_some : (g : A → ℕ) (l : List A) → 0 < sum_of g l → (i : ℕ) × (a : A) × (get_elem? l i ≡ some a) × (0 < g a)
  sum_of_some g [] h = absurd (omega arith)
  sum_of_some g (x ∷ xs) h = found (g x) refl (sum_of_some g xs)
    where
      found : (n : ℕ) → g x ≡ n → (0 < sum_of g xs → (i : ℕ) × (a : A) × (get_elem? xs i ≡ some a) × (0 < g a)) → (i : ℕ) × (a : A) × (get_elem? (x ∷ xs) i ≡ some a) × (0 < g a)
      found zero e go = let t = go (omega (arith, e)) in (suc t.0, t.1, t.2, t.3)
      found (suc n) e go = (0, x, refl, omega (arith, e))

  pub at_append : (l m : List A) (i : ℕ) (b : A) → get_elem? (l ++ m) i ≡ some b → (get_elem? l i ≡ some b) ⊎ ((k : ℕ) × (get_elem? m k ≡ some b))
  at_append [] m i b e = inr (i, e)
  at_append (x ∷ xs) m zero b e = inl e
  at_append (x ∷ xs) m (suc i) b e = at_append xs m i b e

  pub set_there : (l : List A) (i : ℕ) (a b : A) → get_elem? l i ≡ some b → get_elem? (set l i a) i ≡ some a
  set_there [] i a b e = absurd (some-ne-none b (sym e))
  set_there (x ∷ xs) zero a b e = refl
  set_there (x ∷ xs) (suc i) a b e = set_there xs i a b e

  pub at_below : (l : List A) (i : ℕ) → i < length l → (a : A) × (get_elem? l i ≡ some a)
  at_below [] i h = absurd (omega arith)
  at_below (x ∷ xs) zero h = (x, refl)
  at_below (x ∷ xs) (suc i) h = at_below xs i (omega arith)

module _ {A : Type 0} where
  pub at_lt : (l : List A) (i : ℕ) (a : A) → get_elem? l i ≡ some a → i < length l
  at_lt [] i a e = absurd (some-ne-none a (sym e))
  at_lt (x ∷ xs) zero a e = omega arith
  at_lt (x ∷ xs) (suc i) a e = omega (arith, at_lt xs i a e)

module _ {A B : Type 0} where
  pub sum_of-map : (g : B → ℕ) (h : A → B) (l : List A) → sum_of g (map h l) ≡ sum_of (λ x. g (h x)) l
  sum_of-map g h [] = refl
  sum_of-map g h (x ∷ xs) = ap (λ (k : ℕ). g (h x) + k) (sum_of-map g h xs)

  pub at_map_from : (h : A → B) (l : List A) (i : ℕ) (b : B) → get_elem? (map h l) i ≡ some b → (a : A) × (get_elem? l i ≡ some a) × (h a ≡ b)
  at_map_from h [] i b e = absurd (some-ne-none b (sym e))
  at_map_from h (x ∷ xs) zero b e = (x, refl, some-injective _ _ e)
  at_map_from h (x ∷ xs) (suc i) b e = at_map_from h xs i b e

  pub length-map : (h : A → B) (l : List A) → length (map h l) ≡ length l
  length-map h [] = refl
  length-map h (x ∷ xs) = ap suc (length-map h xs)

module _ {A : Type 0} where
  pub take_snoc : (l : List A) (i : ℕ) (a : A) → get_elem? l i ≡ some a → take i l ++ a ∷ [] ≡ take (i + 1) l
  take_snoc l i a e = one l i a e ∙ ap (λ (n : ℕ). take n l) (sym (add-one i))
    where
      one : (m : List A) (j : ℕ) (b : A) → get_elem? m j ≡ some b → take j m ++ b ∷ [] ≡ take (suc j) m
      one [] j b e' = absurd (some-ne-none b (sym e'))
      one (x ∷ xs) zero b e' = ap (λ y. y ∷ []) (sym (some-injective x b e'))
      one (x ∷ xs) (suc j) b e' = ap (λ t. x ∷ t) (one xs j b e')

pub unset : (fs : List Bool) (i k : ℕ) → k ≢ i → get_or (set fs i false) k false ≡ get_or fs k false
unset [] i k ne = refl
unset (x ∷ xs) zero zero ne = absurd (ne refl)
unset (x ∷ xs) zero (suc k) ne = refl
unset (x ∷ xs) (suc i) zero ne = refl
unset (x ∷ xs) (suc i) (suc k) ne = unset xs i k (λ e. ne (ap suc e))

pub unset_at : (fs : List Bool) (i : ℕ) → get_or (set fs i false) i false ≡ false
unset_at [] zero = refl
unset_at [] (suc i) = refl
unset_at (x ∷ xs) zero = refl
unset_at (x ∷ xs) (suc i) = unset_at xs i
