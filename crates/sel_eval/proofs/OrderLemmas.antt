-- The formats of an item in an order: each is better than all that follow it.
use Rattle.std.proofs.Common.{◌≡◌, ℕ, zero, suc, ◌-◌, ◌<◌, List, [], ◌∷◌, length, map, filter, reverse, get_or, Bool, true, false, eqb, Some, refl, sym, ap, ◌∙◌, arith}
use Rattle.std.specs.Prelude.{slice_get, All}
use Rattle.std.specs.List.{range_with_len, IsDistinct, AllPairs, position_or_len}
use Rattle.std.specs.List.Sorted.{IsPermutation}
use Rattle.std.proofs.lemmas.Bool.Decides.{nat_tests}
use Rattle.std.proofs.lemmas.Bool.{ne_eqb}
use Rattle.std.proofs.lemmas.List.{length-map, length-reverse, get_or-map, get_or-reverse}
use Rattle.std.proofs.lemmas.List.Elements.{All-head, All-tail}
use Rattle.std.proofs.lemmas.List.FromFn.{length-range_with_len, get_or-range_with_len}
use Rattle.std.proofs.lemmas.List.Kept.{AllPairs-filter}
use Rattle.std.proofs.lemmas.List.Sorted.{All-permutation}
use Rattle.std.proofs.lemmas.List.Sums.{position_or_len_is}
use Rattle.std.proofs.lemmas.Map.Keys.{apart_from_distinct, IsDistinct-from_apart, IsDistinct-IsPermutation}
use Rattle.info_item.specs.Item.{Format}
use Rattle.sel_eval.specs.Placed.{Placed, at_places}
use Rattle.sel_eval.specs.Nth.{is_better, is_worse}
use Rattle.sel_eval.proofs.NthLemmas.{Leads, Falls}

eqb_flips : (x y : ℕ) → eqb x y ≡ eqb y x
eqb_flips x y = grind (arith, nat_tests)

range_apart : (n : ℕ) → IsDistinct eqb (range_with_len 0 n)
range_apart n = IsDistinct-from_apart eqb (range_with_len 0 n) (λ i j d l m.
    let w : j < n = rw (length-range_with_len 0 n) at m in
    let a = get_or-range_with_len 0 n i d (omega arith) in
    let b = get_or-range_with_len 0 n j d w in
    ne_eqb _ _ (λ e. absurd (omega arith)))

range_within : (n : ℕ) → All (λ k. k < n) (range_with_len 0 n)
range_within n i d l =
    let w : i < n = rw (length-range_with_len 0 n) at l in
    let a = get_or-range_with_len 0 n i d w in
    omega (arith, a)

-- each place of an order is one of the formats
pub order_within : (n : ℕ) (order : List ℕ) → IsPermutation (range_with_len 0 n) order → All (λ k. k < n) order
order_within n order each = All-permutation (λ k. k < n) (range_with_len 0 n) order each (range_within n)

pub format_at : (formats : List Format) (k : ℕ) → k < length formats → (f : Format) × (slice_get formats k ≡ Some f)
format_at [] k l = absurd (omega arith)
format_at (f ∷ fs) zero l = (f, refl)
format_at (f ∷ fs) (suc k) l = format_at fs k (omega arith)

places_are : (formats : List Format) (ks : List ℕ) → All (λ k. k < length formats) ks → map (λ p. p.place) (at_places formats ks) ≡ ks
places_are formats [] h = refl
places_are formats (k ∷ ks) h =
    let within : k < length formats = All-head (λ (j : ℕ). j < length formats) k ks h in
    let f = format_at formats k within in
    rw f.1 (ap (λ (z : List ℕ). k ∷ z) (places_are formats ks (All-tail (λ (j : ℕ). j < length formats) k ks h)))

-- x is before y, and y is not before x
abbrev Before : (Placed → Placed → Bool) → Placed → Placed → Type 0
Before before x y = (before x y ≡ true) × (before y x ≡ false)

leads : (before : Placed → Placed → Bool) (x : Placed) (xs : List Placed) → ((j : ℕ) (d : Placed) → j < length xs → Before before x (get_or xs j d)) → Leads before x xs
leads before x [] h = tt
leads before x (y ∷ ys) h =
    let first = h 0 x (omega arith) in
    (first.0, first.1, leads before x ys (λ j d l. h (suc j) d (omega arith)))

falls : (before : Placed → Placed → Bool) → ((x : Placed) → before x x ≡ false) → (xs : List Placed) → AllPairs (Before before) xs → Falls before xs
falls before self [] h = tt
falls before self (x ∷ xs) h =
    (self x, leads before x xs (λ j d l. h 0 (suc j) d (omega arith) (omega arith)), falls before self xs (λ i j d b l. h (suc i) (suc j) d (omega arith) (omega arith)))

pairs_turned : (before : Placed → Placed → Bool) (xs : List Placed) → AllPairs (Before before) xs → AllPairs (Before (λ x y. before y x)) (reverse xs)
pairs_turned before xs h i j d b l =
    let m : j < length xs = rw (length-reverse xs) at l in
    let e = get_or-reverse xs i d (omega arith) in
    let f = get_or-reverse xs j d m in
    let r = h (length xs - 1 - j) (length xs - 1 - i) d (omega arith) (omega arith) in
    rw (e, f) (r.0, r.1)

module _ (formats : List Format) (order : List ℕ) (each : IsPermutation (range_with_len 0 (length formats)) order) where
  apart : IsDistinct eqb order
  apart = IsDistinct-IsPermutation eqb eqb_flips _ _ each (range_apart (length formats))

  spot : (i : ℕ) → i < length order → position_or_len (λ k. eqb k (get_or order i 0)) order ≡ i
  spot i l = position_or_len_is (λ k. eqb k (get_or order i 0)) order i 0 (omega arith) (λ k b. apart_from_distinct eqb order k i 0 apart b l) (λ _. grind (arith, nat_tests))

  all : map (λ p. p.place) (at_places formats order) ≡ order
  all = places_are formats order (order_within (length formats) order each)

  count : length (at_places formats order) ≡ length order
  count = sym (length-map (at_places formats order) (λ p. p.place)) ∙ ap length all

  spot_of : (i : ℕ) (d : Placed) → i < length (at_places formats order) → position_or_len (λ k. eqb k (get_or (at_places formats order) i d).place) order ≡ i
  spot_of i d l =
      let m : i < length order = rw count at l in
      let e : (get_or (at_places formats order) i d).place ≡ get_or order i 0 =
      sym (get_or-map (λ p. p.place) (at_places formats order) i d 0 l) ∙ ap (λ (z : List ℕ). get_or z i 0) all in
      ap (λ (n : ℕ). position_or_len (λ k. eqb k n) order) e ∙ spot i m

  better_pairs : AllPairs (Before (is_better order)) (at_places formats order)
  better_pairs i j d b l =
      let e = spot_of i d (omega arith) in
      let f = spot_of j d l in
      rw (e, f) (grind (arith, nat_tests), grind (arith, nat_tests))

  self : (x : Placed) → is_better order x x ≡ false
  self x = grind (arith, nat_tests)

  -- what is left of the formats, from best to worst
  pub from_best : (left : Placed → Bool) → Falls (is_better order) (filter left (at_places formats order))
  from_best left = falls (is_better order) self _ (AllPairs-filter (Before (is_better order)) left (at_places formats order) better_pairs)

  -- and from worst to best
  pub from_worst : (left : Placed → Bool) → Falls (is_worse order) (reverse (filter left (at_places formats order)))
  from_worst left =
      falls (is_worse order) self _ (pairs_turned (is_better order) _ (AllPairs-filter (Before (is_better order)) left (at_places formats order) better_pairs))
