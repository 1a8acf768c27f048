-- Ranks are compared field by field, and the first difference decides.
use Rattle.std.proofs.Common.{◌≡◌, ◌≤◌, ◌<◌, ◌+◌, ℕ, zero, suc, List, [], ◌∷◌, ◌++◌, true, false, map, take, drop, length, get_or, refl, sym, ap, ◌∙◌, arith, add-one}
use Rattle.std.specs.declared.cmp.Ordering.{Ordering}
use Rattle.std.specs.declared.cmp.Ordering.TheVariants.{Less, Equal, Greater}
use Rattle.std.specs.Ordering.{ordering_then, is_ne}
use Rattle.std.specs.Cmp.Lexicographic.{slice_cmp}
use Rattle.std.proofs.lemmas.List.{map-append}

module _ {E W R : Type 0} (cmp : R → R → Ordering) (view : E → W) (f g : W → R) where
  -- the ranks from a place on
  abbrev pub from : List E → ℕ → Ordering
  from xs i = slice_cmp cmp (map f (drop i (map view xs))) (map g (drop i (map view xs)))

  pub from_step : (xs : List E) (i : ℕ) (d : E) → i < length xs → from xs i ≡ ordering_then (cmp (f (view (get_or xs i d))) (g (view (get_or xs i d)))) (from xs (suc i))
  from_step [] i d l = absurd (omega arith)
  from_step (x ∷ xs) zero d l = refl
  from_step (x ∷ xs) (suc i) d l = from_step xs i d (omega arith)

  pub from_end : (xs : List E) (i : ℕ) → length xs ≤ i → from xs i ≡ Equal
  from_end [] zero l = refl
  from_end [] (suc i) l = refl
  from_end (x ∷ xs) zero l = absurd (omega arith)
  from_end (x ∷ xs) (suc i) l = from_end xs i (omega arith)

  differs : (o p : Ordering) → is_ne o ≡ true → ordering_then o p ≡ o
  differs Less p n = refl
  differs Equal p n = cc
  differs Greater p n = refl

  same : (o p : Ordering) → is_ne o ≡ false → ordering_then o p ≡ p
  same Less p n = cc
  same Equal p n = refl
  same Greater p n = cc

  -- two ranks that differ decide, and two that are equal leave it to those behind them
  pub decided : (xs : List E) (i : ℕ) (d : E) (whole o : Ordering) → i < length xs → whole ≡ from xs i → o ≡ cmp (f (view (get_or xs i d))) (g (view (get_or xs i d))) → is_ne o ≡ true → o ≡ whole
  decided xs i d whole o l w e n = sym (w ∙ (from_step xs i d l ∙ (ap (λ z. ordering_then z (from xs (suc i))) (sym e) ∙ differs o _ n)))

  pub undecided : (xs : List E) (i : ℕ) (d : E) (whole o : Ordering) → i < length xs → whole ≡ from xs i → o ≡ cmp (f (view (get_or xs i d))) (g (view (get_or xs i d))) → is_ne o ≡ false → whole ≡ from xs (i + 1)
  undecided xs i d whole o l w e n = w ∙ (from_step xs i d l ∙ (ap (λ z. ordering_then z (from xs (suc i))) (sym e) ∙ (same o _ n ∙ rw add-one refl)))

module _ {E W R P : Type 0} (view : E → W) (f : W → R) (plain : P → R) where
  one_more : (xs : List E) (i : ℕ) (d : E) → i < length xs → map f (take (suc i) (map view xs)) ≡ map f (take i (map view xs)) ++ f (view (get_or xs i d)) ∷ []
  one_more [] i d l = absurd (omega arith)
  one_more (x ∷ xs) zero d l = refl
  one_more (x ∷ xs) (suc i) d l = ap (λ z. f (view x) ∷ z) (one_more xs i d (omega arith))

  -- one more rank
  pub rank_pushed : (xs : List E) (i : ℕ) (d : E) (old new : List P) (r : P) → i < length xs → map plain old ≡ map f (take i (map view xs)) →
      new ≡ old ++ r ∷ [] → plain r ≡ f (view (get_or xs i d)) → map plain new ≡ map f (take (i + 1) (map view xs))
  rank_pushed xs i d old new r l e n p =
      ap (map plain) n ∙ (map-append plain old (r ∷ []) ∙ (ap (λ z. z ++ plain r ∷ []) e ∙ (ap (λ z. map f (take i (map view xs)) ++ z ∷ []) p
      ∙ (sym (one_more xs i d l) ∙ rw add-one refl))))

  pub all_ranks : (xs : List E) (n : ℕ) → length xs ≤ n → take n (map view xs) ≡ map view xs
  all_ranks [] zero l = refl
  all_ranks [] (suc n) l = refl
  all_ranks (x ∷ xs) zero l = absurd (omega arith)
  all_ranks (x ∷ xs) (suc n) l = ap (λ z. view x ∷ z) (all_ranks xs n (omega arith))
