-- A product of two sizes over 10^8, in two halves, and the sign of a product.
use Rattle.std.proofs.Common.{◌≡◌, ◌<◌, ◌+◌, ◌-◌, ◌*◌, ◌/◌, ◌%◌, ◌^◌, ℕ, true, false, not, min, refl, sym, ap, ◌∙◌, arith, eqb, zero, suc}
use Rattle.std.specs.Prelude.{ℤ, pos, negsuc, ◌*ℤ◌, unsigned_abs}
use Rattle.std.proofs.Math.Arith.{digits_div, digits_mod}
use lib.Signed.{lt_z}
use lib.IntN.{neg_ℤ}
use mathlib.Core.Bool.{beq}
use Rattle.std.proofs.lemmas.Bool.{ne_eqb}
use Rattle.text_base.specs.Arithmetic.{is_negative, rounded_decimal}
use Rattle.text_base.proofs.DecimalLemmas.{ltb_not}

halves : (h l u b : ℕ) → (h * u + l) * b ≡ (h * b) * u + l * b
halves h l u b = omega arith

joined : (x y u w : ℕ) → (x + y) * u + w ≡ x * u + (y * u + w)
joined x y u w = omega arith

in_halves : (a b : ℕ) → a * b ≡ ((a / 10 ^ 8) * b + ((a % 10 ^ 8) * b) / 10 ^ 8) * 10 ^ 8 + ((a % 10 ^ 8) * b) % 10 ^ 8
in_halves a b =
    let h = a / 10 ^ 8 in
    let l = a % 10 ^ 8 in
    let e : h * 10 ^ 8 + l ≡ a = omega arith in
    let f : ((l * b) / 10 ^ 8) * 10 ^ 8 + (l * b) % 10 ^ 8 ≡ l * b = omega arith in
    ap (λ x. x * b) (sym e) ∙ (halves h l (10 ^ 8) b ∙ (ap (λ x. (h * b) * 10 ^ 8 + x) (sym f) ∙ sym (joined (h * b) ((l * b) / 10 ^ 8) (10 ^ 8) ((l * b) % 10 ^ 8))))

remainder_small : (n : ℕ) → n % 10 ^ 8 < 10 ^ 8
remainder_small n = omega arith

pub quotient_in_halves : (a b : ℕ) → (a * b) / 10 ^ 8 ≡ (a / 10 ^ 8) * b + ((a % 10 ^ 8) * b) / 10 ^ 8
quotient_in_halves a b =
    ap (λ x. x / 10 ^ 8) (in_halves a b) ∙ digits_div ((a / 10 ^ 8) * b + ((a % 10 ^ 8) * b) / 10 ^ 8) (remainder_small ((a % 10 ^ 8) * b))

pub remainder_in_halves : (a b : ℕ) → (a * b) % 10 ^ 8 ≡ ((a % 10 ^ 8) * b) % 10 ^ 8
remainder_in_halves a b =
    ap (λ x. x % 10 ^ 8) (in_halves a b) ∙ digits_mod ((a / 10 ^ 8) * b + ((a % 10 ^ 8) * b) / 10 ^ 8) (remainder_small ((a % 10 ^ 8) * b))

-- a sum that stops at the end of 128 bits is past every range there
pub capped_sum : (x y h t r : ℕ) → h ≡ min x (2 ^ 128 - 1) → t ≡ min (h + y) (2 ^ 128 - 1) → r ≡ min t (10 ^ 28) → r ≡ min (x + y) (10 ^ 28)
capped_sum x y h t r e f g = omega arith

pub tenths_of_product : (n : ℕ) → (10 * n) / 10 ^ 9 ≡ n / 10 ^ 8
tenths_of_product n = omega arith

pub cut_of_product : (n : ℕ) → (10 * n) % 10 ^ 9 ≡ 10 * (n % 10 ^ 8)
cut_of_product n = omega arith

not_below : (n : ℕ) → lt_z (pos n) (pos 0) ≡ false
not_below n = ltb_not n 0 (omega arith)

-- nothing has no sign
sign_of_opposite : (n : ℕ) → rounded_decimal true n (10 ^ 9) ≡ rounded_decimal (is_negative (neg_ℤ (pos n))) (unsigned_abs (neg_ℤ (pos n))) (10 ^ 9)
sign_of_opposite zero = refl
sign_of_opposite (suc n) = refl

-- the sign of a product, by the signs of its factors
sign_of_product : (a b : ℤ) → rounded_decimal (not (beq (lt_z a (pos 0)) (lt_z b (pos 0)))) (unsigned_abs a * unsigned_abs b) (10 ^ 9) ≡ rounded_decimal (is_negative (a *ℤ b)) (unsigned_abs (a *ℤ b)) (10 ^ 9)
sign_of_product (pos m) (pos n) = rw (not_below m) (rw (not_below n) refl)
sign_of_product (pos m) (negsuc n) = rw (not_below m) (sign_of_opposite (m * suc n))
sign_of_product (negsuc m) (pos n) = rw (not_below n) (sign_of_opposite (suc m * n))
sign_of_product (negsuc m) (negsuc n) = refl

pub sign_of_factors : {x y a b : ℤ} → x ≡ a → y ≡ b → rounded_decimal (not (beq (lt_z x (pos 0)) (lt_z y (pos 0)))) (unsigned_abs a * unsigned_abs b) (10 ^ 9) ≡ rounded_decimal (is_negative (a *ℤ b)) (unsigned_abs (a *ℤ b)) (10 ^ 9)
sign_of_factors {a = a} {b = b} e f = rw e (rw f (sign_of_product a b))

ten_times : (x : ℕ) → eqb x 0 ≡ eqb (10 * x) 0
ten_times zero = refl
ten_times (suc x) =
    let e : eqb (suc x) 0 ≡ false = ne_eqb (suc x) 0 (λ z. omega arith) in
    let f : eqb (10 * suc x) 0 ≡ false = ne_eqb (10 * suc x) 0 (λ z. omega arith) in
    rw e (rw f refl)

pub same_cut : (n : ℕ) → not (eqb (n % 10 ^ 8) 0) ≡ not (eqb ((10 * n) % 10 ^ 9) 0)
same_cut n = rw (cut_of_product n) (ap not (ten_times (n % 10 ^ 8)))
