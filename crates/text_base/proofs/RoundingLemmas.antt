-- A quotient that is cut off after its tenths is rounded by the last of them and by whether anything was cut off.
use Rattle.std.proofs.Common.{◌≡◌, ◌≤◌, ◌<◌, ◌+◌, ◌*◌, ◌/◌, ◌%◌, ℕ, Bool, true, false, cond, eqb, ltb, refl, ap, ◌∙◌, arith, not, ◌&&◌, ◌||◌, inl, inr}
use Rattle.std.proofs.Math.Nat.{mul-le-mul_left}
use Rattle.std.proofs.lemmas.Bool.{cases_lt, ne_eqb}
use Rattle.std.proofs.lemmas.Bool.Decides.{nat_tests}
use Rattle.text_base.specs.Value.{round_half_even}

in_tenths : (d t k u : ℕ) → 10 * k + u ≡ t → d * t ≡ 10 * (d * k) + d * u
in_tenths d t k u e = rw (← e) (omega arith)

units_place : (n d t : ℕ) → 0 < d → t ≡ (10 * n) / d → t / 10 ≡ n / d
units_place n d t l e =
    let q = n / d in
    let k = t / 10 in
    let u = t % 10 in
    let w = (10 * n) % d in
    let h : d * t + w ≡ 10 * n = rw e (omega arith) in
    let g : d * q + n % d ≡ n = omega arith in
    let f : 10 * k + u ≡ t = omega arith in
    let p : d * t ≡ 10 * (d * k) + d * u = in_tenths d t k u f in
    let b : d * u ≤ d * 9 = mul-le-mul_left d (omega arith) in
    let r : n % d < d = omega arith in
    let v : w < d = omega arith in
    elim (cases_lt q k) [
      | inl a ↦ let m : d * (q + 1) ≤ d * k = mul-le-mul_left d (omega arith) in absurd (omega arith)
      | inr a ↦ elim (cases_lt k q) [
        | inl a ↦ let m : d * (k + 1) ≤ d * q = mul-le-mul_left d (omega arith) in absurd (omega arith)
        | inr a' ↦ omega arith
      ]
    ]

tenths_place : (n d t : ℕ) → 0 < d → t ≡ (10 * n) / d → 10 * (n % d) ≡ d * (t % 10) + (10 * n) % d
tenths_place n d t l e =
    let k = t / 10 in
    let u = t % 10 in
    let w = (10 * n) % d in
    let h : d * t + w ≡ 10 * n = rw e (omega arith) in
    let g : d * (n / d) + n % d ≡ n = omega arith in
    let f : 10 * k + u ≡ t = omega arith in
    let p : d * t ≡ 10 * (d * k) + d * u = in_tenths d t k u f in
    let q : d * k ≡ d * (n / d) = ap (λ x. d * x) (units_place n d t l e) in
    omega arith

abbrev rounds_up : ℕ → ℕ → Bool → Bool
rounds_up k u cut = ltb 5 u || eqb u 5 && (cut || eqb (k % 2) 1)

abbrev rounded_up : ℕ → ℕ → ℕ → ℕ
rounded_up q r d = cond (ltb (2 * r) d) q (cond (ltb d (2 * r)) (q + 1) (q + q % 2))

below_half : (q r d u : ℕ) (cut : Bool) → u < 5 → 2 * r < d → q + cond (rounds_up q u cut) 1 0 ≡ rounded_up q r d
below_half q r d u cut l m = grind (arith, nat_tests)

above_half : (q r d u : ℕ) (cut : Bool) → 5 < u → d < 2 * r → q + cond (rounds_up q u cut) 1 0 ≡ rounded_up q r d
above_half q r d u cut l m = grind (arith, nat_tests)

at_half : (q r d w : ℕ) (cut : Bool) → 2 * r ≡ d → cut ≡ false → q + cond (rounds_up q 5 cut) 1 0 ≡ rounded_up q r d
at_half q r d w cut l c = rw c (grind (arith, nat_tests))

past_half : (q r d w : ℕ) (cut : Bool) → d < 2 * r → cut ≡ true → q + cond (rounds_up q 5 cut) 1 0 ≡ rounded_up q r d
past_half q r d w cut l c = rw c (grind (arith, nat_tests))

by_last_tenth : (q r d u w k : ℕ) (cut : Bool) → 0 < d → k ≡ q → 10 * r ≡ d * u + w → w < d → cut ≡ not (eqb w 0) → k + cond (rounds_up k u cut) 1 0 ≡ rounded_up q r d
by_last_tenth q r d u w k cut l e f v c = rw e (elim (cases_lt u 5) [
  | inl a ↦ let m : d * u ≤ d * 4 = mul-le-mul_left d (omega arith) in below_half q r d u cut a (omega arith)
  | inr a ↦ elim (cases_lt 5 u) [
    | inl b ↦ let m : d * 6 ≤ d * u = mul-le-mul_left d b in above_half q r d u cut b (omega arith)
    | inr b ↦
        let g : u ≡ 5 = omega arith in
        let h : 10 * r ≡ d * 5 + w = f ∙ ap (λ x. d * x + w) g in
        rw g (elim (cases_lt 0 w) [
          | inl z ↦ past_half q r d w cut (omega arith) (c ∙ ap not (ne_eqb w 0 (λ y. omega arith)))
          | inr z ↦ at_half q r d w cut (omega arith) (let y : w ≡ 0 = omega arith in c ∙ rw y refl)
        ])
  ]
])

pub rounded_by_tenths : (n d t : ℕ) (cut : Bool) → 0 < d → t ≡ (10 * n) / d → cut ≡ not (eqb ((10 * n) % d) 0) →
    t / 10 + cond (rounds_up (t / 10) (t % 10) cut) 1 0 ≡ round_half_even n d
rounded_by_tenths n d t cut l e c =
    by_last_tenth (n / d) (n % d) d (t % 10) ((10 * n) % d) (t / 10) cut l (units_place n d t l e) (tenths_place n d t l e) (omega arith) c
