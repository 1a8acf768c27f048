-- A number begins with a minus sign or a digit, and ends with a digit.
use Rattle.std.proofs.Common.{◌≡◌, ℕ, zero, suc, ◌+◌, ◌-◌, get_or, ◌<◌, ◌≤◌, List, ◌∷◌, drop, refl, arith, Bool, true, false, cond}
use Rattle.std.specs.Prelude.{◌==◌, ◌||◌, slice_index}
use Rattle.std.proofs.lemmas.List.{get_or-drop}
use Rattle.text_base.proofs.SpellingLemmas.{digit_to}
use Rattle.text_base.proofs.FrontLemmas.{digits_before, from_int, from_frac, from_exp, number_length_is, number_length_none}
use Rattle.std.proofs.lemmas.Bool.Decides.{nat_tests}
use Rattle.text_base.specs.Spelling.{is_digit, digits_length, minus_length, sign_length, int_length, marked_length, frac_length, exp_length, unsigned_length, number_length}

digits_none : (b : ℕ) (bs : List ℕ) → is_digit b ≡ false → digits_length (b ∷ bs) ≡ 0
unfolding digits_length
digits_none b bs e = rw e refl

int_none : (b : ℕ) (bs : List ℕ) → is_digit b ≡ false → int_length (b ∷ bs) ≡ 0
int_none b bs e = step (b == 48) refl
  where
    step : (t : Bool) → (b == 48) ≡ t → cond t 1 (digits_length (b ∷ bs)) ≡ 0
    step true f = let zero_digit : is_digit b ≡ true = grind (arith, nat_tests) in cc
    step false f = digits_none b bs e

unsigned_none : (b : ℕ) (bs : List ℕ) → is_digit b ≡ false → unsigned_length (b ∷ bs) ≡ 0
unfolding unsigned_length
unsigned_none b bs e = let none : int_length (b ∷ bs) ≡ 0 = int_none b bs e in rw none refl

number_none : (b : ℕ) (bs : List ℕ) → is_digit b ≡ false → (b == 45) ≡ false → number_length (b ∷ bs) ≡ 0
unfolding number_length
number_none b bs e f = let none : unsigned_length (b ∷ bs) ≡ 0 = unsigned_none b bs e in rw f (rw none refl)

pub number_head : (b : ℕ) (bs : List ℕ) → 0 < number_length (b ∷ bs) → (45 ≤ b) × (b ≤ 57)
number_head b bs h = step (is_digit b) refl (b == 45) refl
  where
    step : (t : Bool) → is_digit b ≡ t → (u : Bool) → (b == 45) ≡ u → (45 ≤ b) × (b ≤ 57)
    step true e u f = (grind (arith, nat_tests), grind (arith, nat_tests))
    step false e true f = (grind (arith, nat_tests), grind (arith, nat_tests))
    step false e false f = absurd (omega (arith, h, number_none b bs e f))

-- ---- the last byte of a number is a digit
abbrev IsLastSmall : List ℕ → ℕ → Type 0
IsLastSmall bs n = 0 < n → get_or bs (n - 1) 0 < 128

digits_last : (bs : List ℕ) → IsLastSmall bs (digits_length bs)
digits_last bs h =
    let digit = digits_before bs (digits_length bs - 1) (omega arith) in
    omega (arith, digit_to (get_or bs (digits_length bs - 1) 0) digit)

int_last : (bs : List ℕ) → IsLastSmall bs (int_length bs)
int_last bs = step (slice_index bs 0 == 48) refl
  where
    step : (t : Bool) → (slice_index bs 0 == 48) ≡ t → IsLastSmall bs (cond t 1 (digits_length bs))
    step true e h = let zero_digit : get_or bs 0 0 ≡ 48 = grind (arith, nat_tests) in omega arith
    step false e h = digits_last bs h

-- what stands behind m bytes
behind : (bs : List ℕ) (m n : ℕ) → 0 < n → IsLastSmall (drop m bs) n → get_or bs (m + n - 1) 0 < 128
behind bs m n some h =
    let e : get_or (drop m bs) (n - 1) 0 ≡ get_or bs (m + (n - 1)) 0 = get_or-drop m bs (n - 1) 0 in
    let same : m + (n - 1) ≡ m + n - 1 = omega arith in
    rw same at (rw e at (h some))

marked_last : (mark : ℕ) (bs : List ℕ) → IsLastSmall bs (marked_length mark bs)
marked_last mark bs = step (digits_length (drop mark bs) == 0) refl
  where
    step : (t : Bool) → (digits_length (drop mark bs) == 0) ≡ t → IsLastSmall bs (cond t 0 (mark + digits_length (drop mark bs)))
    step true e h = absurd (omega (arith, h))
    step false e h =
        let some : 0 < digits_length (drop mark bs) = grind (arith, nat_tests) in
        behind bs mark (digits_length (drop mark bs)) some (digits_last (drop mark bs))

frac_last : (bs : List ℕ) → IsLastSmall bs (frac_length bs)
frac_last bs = step (slice_index bs 0 == 46)
  where
    step : (t : Bool) → IsLastSmall bs (cond t (marked_length 1 bs) 0)
    step true = marked_last 1 bs
    step false = λ h. absurd (omega (arith, h))

exp_last : (bs : List ℕ) → IsLastSmall bs (exp_length bs)
exp_last bs = step (slice_index bs 0 == 101 || slice_index bs 0 == 69)
  where
    step : (t : Bool) → IsLastSmall bs (cond t (marked_length (1 + sign_length (drop 1 bs)) bs) 0)
    step true = marked_last (1 + sign_length (drop 1 bs)) bs
    step false = λ h. absurd (omega (arith, h))

-- one part behind another
joined_last : (bs : List ℕ) (m n : ℕ) → IsLastSmall bs m → IsLastSmall (drop m bs) n → IsLastSmall bs (m + n)
joined_last bs m zero f g h = let e : m + 0 ≡ m = omega arith in rw e (f (omega (arith, h)))
joined_last bs m (suc n) f g h = behind bs m (suc n) (omega arith) g

pub number_last : (bs : List ℕ) → 0 < number_length bs → get_or bs (number_length bs - 1) 0 < 128
number_last bs h = step (int_length (from_int bs)) refl
  where
    all : 0 < int_length (from_int bs) → get_or bs (minus_length bs + (int_length (from_int bs) + (frac_length (from_frac bs) + exp_length (from_exp bs))) - 1) 0 < 128
    all some =
        behind bs (minus_length bs) (int_length (from_int bs) + (frac_length (from_frac bs) + exp_length (from_exp bs))) (omega arith)
        (joined_last (from_int bs) (int_length (from_int bs)) (frac_length (from_frac bs) + exp_length (from_exp bs)) (int_last (from_int bs))
        (joined_last (from_frac bs) (frac_length (from_frac bs)) (exp_length (from_exp bs)) (frac_last (from_frac bs)) (exp_last (from_exp bs))))

    step : (n : ℕ) → int_length (from_int bs) ≡ n → get_or bs (number_length bs - 1) 0 < 128
    step zero e = absurd (omega (arith, h, number_length_none bs e))
    step (suc n) e = let some : 0 < int_length (from_int bs) = omega arith in rw (number_length_is bs some) (all some)
