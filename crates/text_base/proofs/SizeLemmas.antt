-- Sizes: the power of a base fits, and a product that is cut off at the end of all ranges is in range where the product itself is.
use Rattle.std.proofs.Common.{◌≡◌, ◌≤◌, ◌<◌, ◌+◌, ◌-◌, ◌*◌, ◌^◌, ℕ, zero, suc, List, ◌++◌, length, Some, true, leb, refl, sym, ap, ◌∙◌, arith, lit<, inl, inr}
use Rattle.std.specs.Prelude.{min, pos}
use Rattle.std.proofs.Math.Nat.{pow-le-pow_left, pow-le-pow_right, one-le-pow}
use Rattle.std.proofs.lemmas.List.Sums.{fold-append}
use Rattle.std.proofs.lemmas.Bool.{cases_lt}
use Rattle.std.proofs.lemmas.Bool.Decides.{nat_tests}
use Rattle.text_base.specs.Value.{digits_value}
use Rattle.text_base.specs.Arithmetic.{whole_in_range, decimal_in_range}
use Rattle.text_base.specs.Size.{digits_front, digits_behind, factor_of, decimal_size, size_behind_point}
use Rattle.text_base.proofs.DecimalLemmas.{ltb_not}
use Rattle.text_base.specs.Spelled.{counted_on}
use Rattle.text_base.proofs.PlacesLemmas.{capped_on, capped_times}

pub power_fits : (base power : ℕ) → base < 2 ^ 16 → power ≤ 5 → base ^ power < 2 ^ 128
power_fits base power b p =
    let h : base ≤ 2 ^ 16 = omega arith in
    let l = pow-le-pow_left h power in
    let r = pow-le-pow_right {n = 2 ^ 16} (lit< tt) p in
    omega arith

-- a count that is cut off, times a factor, and cut off again
pub capped_factor : (n f r : ℕ) → r ≡ min (min n (10 ^ 28) * f) (2 ^ 128 - 1) → min r (10 ^ 28) ≡ min (n * f) (10 ^ 28)
capped_factor n zero r e = omega arith
capped_factor n (suc g) r e = let h = capped_times n (10 ^ 28) (suc g) (omega arith) in omega arith

-- the digits of two runs, counted one behind the other and cut off each time, with zeros behind them
pub capped_digits : (int frac : List ℕ) (zeros a b r : ℕ) → a ≡ min (counted_on 0 int) (10 ^ 28) → b ≡ min (counted_on a frac) (10 ^ 28) →
    r ≡ min (b * 10 ^ zeros) (10 ^ 28) → r ≡ min (digits_value (int ++ frac) * 10 ^ zeros) (10 ^ 28)
capped_digits int frac zeros a b r ea eb er =
    let m = 10 ^ 28 in
    let s : b ≡ min (counted_on (digits_value int) frac) m = rw eb (rw ea (capped_on (digits_value int) m frac)) in
    let t : counted_on (digits_value int) frac ≡ digits_value (int ++ frac) = sym (fold-append (λ n b. 10 * n + (b - 48)) 0 int frac) in
    let u : b ≡ min (digits_value (int ++ frac)) m = s ∙ ap (λ x. min x m) t in
    rw er (rw u (capped_times (digits_value (int ++ frac)) m (10 ^ zeros) (one-le-pow zeros 10 (lit< tt))))

-- two counts that are the same below the end of all ranges
pub same_whole : (r n : ℕ) → min r (10 ^ 28) ≡ min n (10 ^ 28) → whole_in_range (pos r) ≡ whole_in_range (pos n)
same_whole r n e = elim (cases_lt r (2 ^ 63)) [
  | inl h ↦ let s : r ≡ n = omega arith in ap (λ x. whole_in_range (pos x)) s
  | inr h ↦ let g : 2 ^ 63 ≤ n = omega arith in rw (ltb_not r (2 ^ 63) h) (rw (ltb_not n (2 ^ 63) g) refl)
]

pub same_decimal : (r n : ℕ) → min r (10 ^ 28) ≡ min n (10 ^ 28) → decimal_in_range (pos r) ≡ decimal_in_range (pos n)
same_decimal r n e = elim (cases_lt r (10 ^ 27)) [
  | inl h ↦ let s : r ≡ n = omega arith in ap (λ x. decimal_in_range (pos x)) s
  | inr h ↦ let g : 10 ^ 27 ≤ n = omega arith in rw (ltb_not r (10 ^ 27) h) (rw (ltb_not n (10 ^ 27) g) refl)
]

-- a size behind a point, by its parts
pub point_size : (base k : ℕ) (int behind frac : List ℕ) → frac ≡ digits_front behind → factor_of base (digits_behind behind) ≡ Some k →
    0 < length frac → length frac ≤ 9 → size_behind_point base int behind ≡ decimal_size int frac k
point_size base k int behind frac e f some few =
    let a : leb 1 (length frac) ≡ true = grind (arith, nat_tests) in
    let b : leb (length frac) 9 ≡ true = grind (arith, nat_tests) in
    rw (← e) (rw a (rw b (rw f refl)))
