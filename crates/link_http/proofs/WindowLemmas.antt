-- Laws of the bytes at hand.
use Rattle.std.proofs.Common.{◌≡◌, ℕ, zero, suc, zero-add, suc-add, ◌+◌, ◌-◌, ◌<◌, ◌≤◌, List, [], ◌∷◌, ◌++◌, length, take, drop, slice_range, refl, ap, arith, append_assoc, length-drop}
use Rattle.std.proofs.Math.Nat.{sub-zero}
use Rattle.std.proofs.lemmas.List.{length-take-le, drop-drop, drop-take, take-append-drop}
use Rattle.std.specs.Prelude.{nat_lt}
use Rattle.std.proofs.lemmas.Bool.{ltb-false}
use Rattle.link_http.specs.Wire.{Wire, Hears, Fills, left}

pub length-range : (items : List ℕ) (start end : ℕ) → end ≤ length items → length (slice_range items start end) ≡ end - start
length-range items start end within = length-take-le (end - start) (drop start items) (omega (arith, length-drop start items))

-- the bytes at hand behind the first n
pub pass-bytes : (items : List ℕ) (start end n : ℕ) → n ≤ end - start
    → slice_range items (start + n) end ≡ drop n (slice_range items start end)
pass-bytes items start end n within =
    let rest : end - start ≡ n + (end - (start + n)) = omega arith in
    rw (rest, drop-take n (end - (start + n)) (drop start items), drop-drop n start items) refl

cases_nil : (n : ℕ) → ◌≡◌ {A = List ℕ} [] (take n [])
cases_nil zero = refl
cases_nil (suc n) = refl

-- the first k and the next n
pub take-add : (k n : ℕ) (xs : List ℕ) → take (k + n) xs ≡ take k xs ++ take n (drop k xs)
take-add zero n xs = rw (zero-add n) refl
take-add (suc k) n [] = rw (suc-add k n) (cases_nil n)
take-add (suc k) n (x ∷ xs) = rw (suc-add k n) (ap (λ (t : List ℕ). x ∷ t) (take-add k n xs))

pub fills-from : (store before : List ℕ) (k n size : ℕ) (old new : Wire) → take k store ≡ before
    → Hears size n (drop k store) old new → 0 < size → Fills (nat_lt 0 n) before (slice_range store 0 (k + n)) old new
fills-from store before k n size old new held hears some = record {
  same =
      rw (sub-zero, take-add k n store, held, hears.came, hears.rest, append_assoc)
      (ap (λ (t : List ℕ). before ++ t) (take-append-drop n (left old)));
  ended = λ none. hears.ended (omega (arith, ltb-false 0 n none)) some;
}
