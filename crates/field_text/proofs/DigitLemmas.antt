-- Counts of a few digits, and their digits one after another.
use Rattle.std.proofs.Common.{◌≡◌, ℕ, zero, suc, List, [], ◌∷◌, ◌++◌, ◌+◌, ◌-◌, ◌/◌, ◌%◌, ◌^◌, ◌<◌, ◌≤◌, refl, arith, append_assoc, append-nil}
use Rattle.std.proofs.Math.Nat.{pow-le-pow_right}
use Rattle.text_base.proofs.PlacesLemmas.{power_positive}
use Rattle.text_base.specs.NumberText.{padded}

-- what a power of ten leaves
pub left_by_power : (n k p : ℕ) → p ≡ 10 ^ k → n % p < 10 ^ k
left_by_power n k p e = let some = power_positive k in rw e (omega arith)

-- a power of ten is a divisor
pub power_is_some : (k p : ℕ) → p ≡ 10 ^ k → 0 < p
power_is_some k p e = let some = power_positive k in rw e (omega arith)

-- at most nine digits count less than 10^9
pub nine_digits : (n k : ℕ) → k ≤ 9 → n < 10 ^ k → n < 10 ^ 9
nine_digits n k few h = let most : 10 ^ k ≤ 10 ^ 9 = pow-le-pow_right (omega arith) few in omega arith

-- the first of so many digits, and the others
pub padded_more : (places n p : ℕ) (before after : List ℕ) → 0 < places → p ≡ 10 ^ (places - 1) → after ≡ before ++ (48 + n / p) ∷ [] →
    after ++ padded (places - 1) (n % p) ≡ before ++ padded places n
unfolding padded
padded_more zero n p before after some e a = absurd (omega arith)
padded_more (suc k) n p before after some e a =
    let s : suc k - 1 ≡ k = omega arith in
    let h : p ≡ 10 ^ k = rw s at e in
    rw (s, a, h) (append_assoc before ((48 + n / 10 ^ k) ∷ []) (padded k (n % 10 ^ k)))

-- no digits are left
pub padded_none : (places n : ℕ) (before : List ℕ) → places ≤ 0 → before ++ padded places n ≡ before
unfolding padded
padded_none zero n before e = rw append-nil refl
padded_none (suc k) n before e = absurd (omega arith)
