-- A decimal is in range where its count of tenths is, and where its rounded size is.
use Rattle.std.proofs.Common.{◌≡◌, ◌≤◌, ◌<◌, ◌+◌, ◌*◌, ◌/◌, ◌^◌, ℕ, Bool, true, false, Option, Some, None, min, refl, arith, ltb, eqb, zero, suc}
use Rattle.std.proofs.lemmas.Bool.{ne_eqb}
use Rattle.std.specs.Prelude.{unsigned_abs}
use Rattle.std.proofs.Math.Nat.{mul-le-mul_left}
use Rattle.std.proofs.lemmas.Bool.Decides.{nat_tests}
use Rattle.text_base.specs.Number.{Number, decimal}
use Rattle.text_base.specs.Value.{round_half_even, signed}
use Rattle.text_base.specs.Arithmetic.{rounded_decimal}

pub ltb_is : (a b : ℕ) → a < b → ltb a b ≡ true
ltb_is a b l = grind (arith, nat_tests)

pub ltb_not : (a b : ℕ) → b ≤ a → ltb a b ≡ false
ltb_not a b l = grind (arith, nat_tests)

below_end : (n d : ℕ) → 0 < d → (10 * n) / d < 10 ^ 28 → n < 10 ^ 27 * d
below_end n d l t =
    let m : d * ((10 * n) / d + 1) ≤ d * 10 ^ 28 = mul-le-mul_left d (omega arith) in
    omega arith

past_end : (n d : ℕ) → 0 < d → 10 ^ 28 ≤ (10 * n) / d → 10 ^ 27 * d ≤ n
past_end n d l t =
    let m : d * 10 ^ 28 ≤ d * ((10 * n) / d) = mul-le-mul_left d t in
    omega arith

module _ (n d t : ℕ) (p : 0 < d) (e : t ≡ min ((10 * n) / d) (10 ^ 28)) where
  pub exact_tenths : t < 10 ^ 28 → t ≡ (10 * n) / d
  exact_tenths l = omega arith

  pub decimal_some : (b : Bool) (s : ℕ) → t < 10 ^ 28 → s ≡ round_half_even n d → s < 10 ^ 27 → Some (decimal (signed b s)) ≡ rounded_decimal b n d
  decimal_some b s l f m =
      let r : round_half_even n d < 10 ^ 27 = rw (← f) m in
      let i = ltb_is n (10 ^ 27 * d) (below_end n d p (omega arith)) in
      rw i (rw (ltb_is _ _ r) (rw f refl))

  pub decimal_past : (b : Bool) (s : ℕ) → t < 10 ^ 28 → s ≡ round_half_even n d → 10 ^ 27 ≤ s → ◌≡◌ {A = Option Number} None (rounded_decimal b n d)
  decimal_past b s l f m =
      let r : 10 ^ 27 ≤ round_half_even n d = rw (← f) m in
      let i = ltb_is n (10 ^ 27 * d) (below_end n d p (omega arith)) in
      rw i (rw (ltb_not _ _ r) refl)

  pub decimal_far : (b : Bool) → 10 ^ 28 ≤ t → ◌≡◌ {A = Option Number} None (rounded_decimal b n d)
  decimal_far b l = rw (ltb_not n (10 ^ 27 * d) (past_end n d p (omega arith))) refl

pub signed_size : (b : Bool) (n : ℕ) → unsigned_abs (signed b n) ≡ n
signed_size true zero = refl
signed_size true (suc n) = let e : eqb (suc n) 0 ≡ false = ne_eqb (suc n) 0 (λ z. omega arith) in rw e (omega arith)
signed_size false n = refl
