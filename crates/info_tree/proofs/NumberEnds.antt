-- A number ends before a byte that stands in no number: what follows changes nothing.
use Rattle.std.proofs.Common.{◌≡◌, ℕ, zero, suc, ◌+◌, ◌-◌, ◌<◌, ◌≤◌, List, [], ◌∷◌, ◌++◌, length, length-append, length-drop, drop, get_or, refl, sym, ap, subst, ◌∙◌, arith, Bool, true, false, cond, eqb, ◌⊎◌, inl, inr}
use Rattle.std.specs.Prelude.{◌==◌, ◌||◌, Option, Some, None, pos, negsuc}
use Rattle.std.specs.Fmt.{signed_decimal}
use Rattle.std.proofs.Math.Seq.{get_or-append_right}
use Rattle.std.proofs.lemmas.List.{get_or_append_left, drop-append-le}
use Rattle.std.proofs.lemmas.Bool.{cases_lt, ne_eqb, or_parts}
use Rattle.std.proofs.lemmas.Fmt.{decimal_digit}
use Rattle.text_base.specs.Number.{Number, whole, decimal}
use Rattle.text_base.specs.NumberText.{text_of}
use Rattle.text_base.specs.Spelling.{is_digit, digits_length, minus_length, sign_length, int_length, marked_length, frac_length, exp_length, unsigned_length, number_length}
use Rattle.text_base.specs.Value.{parts, exact_value, number_value}
use Rattle.text_base.proofs.FrontLemmas.{digits_length_is, digits_length-within, digits_before, no_digit_behind, int_length-within}

-- a byte that may stand in a number
abbrev pub is_number_byte : ℕ → Bool
is_number_byte b = is_digit b || (b == 43 || (b == 45 || (b == 46 || (b == 69 || b == 101))))

-- what follows is the end, or begins with a byte that stands in no number
abbrev pub EndsNumber : List ℕ → Type 0
EndsNumber [] = Unit {0}
EndsNumber (b ∷ bs) = is_number_byte b ≡ false

head_ends : (rest : List ℕ) → EndsNumber rest → is_number_byte (get_or rest 0 0) ≡ false
head_ends [] e = refl
head_ends (b ∷ bs) e = e

no_digit : (b : ℕ) → is_number_byte b ≡ false → is_digit b ≡ false
no_digit b e = (or_parts (is_digit b) (b == 43 || (b == 45 || (b == 46 || (b == 69 || b == 101)))) e).0

is_other : (b c : ℕ) → is_number_byte b ≡ false → is_number_byte c ≡ true → eqb b c ≡ false
is_other b c e f = ne_eqb b c (λ same. let g : is_number_byte c ≡ false = subst (λ (x : ℕ). is_number_byte x ≡ false) same e in cc)

module _ (rest : List ℕ) (ends : EndsNumber rest) where
  -- a test of the first byte for one that stands in numbers
  head-append : (s : List ℕ) (c : ℕ) → is_number_byte c ≡ true → eqb (get_or (s ++ rest) 0 0) c ≡ eqb (get_or s 0 0) c
  head-append [] c f = is_other (get_or rest 0 0) c (head_ends rest ends) f ∙ sym (is_other 0 c refl f)
  head-append (x ∷ xs) c f = refl

  digits_length-append : (s : List ℕ) → digits_length (s ++ rest) ≡ digits_length s
  digits_length-append s =
      let d = digits_length s in
      let within = digits_length-within s in
      sym (digits_length_is (s ++ rest) d (omega (arith, length-append s rest))
      (λ k l. rw (get_or_append_left s rest 0 k (omega arith)) (digits_before s k l))
      (λ l. stops (cases_lt d (length s))))
    where
      stops : (digits_length s < length s) ⊎ (length s ≤ digits_length s) → is_digit (get_or (s ++ rest) (digits_length s) 0) ≡ false
      stops (inl l) = rw (get_or_append_left s rest 0 (digits_length s) l) (no_digit_behind s l)
      stops (inr l) =
          let none : digits_length s - length s ≡ 0 = omega (arith, digits_length-within s) in
          rw (get_or-append_right s rest (digits_length s) 0 l) (rw none (no_digit (get_or rest 0 0) (head_ends rest ends)))

  minus_length-append : (s : List ℕ) → minus_length (s ++ rest) ≡ minus_length s
  minus_length-append s = ap (λ b. cond b 1 0) (head-append s 45 refl)

  sign_length-append : (s : List ℕ) → sign_length (s ++ rest) ≡ sign_length s
  sign_length-append s = (λ i. cond (head-append s 43 refl i) 1 (minus_length-append s i))

  int_length-append : (s : List ℕ) → int_length (s ++ rest) ≡ int_length s
  int_length-append s = (λ i. cond (head-append s 48 refl i) 1 (digits_length-append s i))

  marked_length-append : (mark : ℕ) (s : List ℕ) → mark ≤ length s → marked_length mark (s ++ rest) ≡ marked_length mark s
  marked_length-append mark s l =
      ap (λ d. cond (eqb d 0) 0 (mark + d)) (ap digits_length (drop-append-le mark s rest l) ∙ digits_length-append (drop mark s))

  frac_length-append : (s : List ℕ) → frac_length (s ++ rest) ≡ frac_length s
  frac_length-append [] = let other : eqb (get_or rest 0 0) 46 ≡ false = is_other (get_or rest 0 0) 46 (head_ends rest ends) refl in rw other refl
  frac_length-append (x ∷ xs) = ap (λ n. cond (eqb x 46) n 0) (marked_length-append 1 (x ∷ xs) (omega arith))

  sign_length-within : (s : List ℕ) → sign_length s ≤ length s
  sign_length-within [] = omega arith
  sign_length-within (x ∷ xs) = one (eqb x 43) (eqb x 45)
    where
      one : (a b : Bool) → cond a 1 (cond b 1 0) ≤ suc (length xs)
      one true b = omega arith
      one false true = omega arith
      one false false = omega arith

  exp_length-append : (s : List ℕ) → exp_length (s ++ rest) ≡ exp_length s
  exp_length-append [] =
      let small : eqb (get_or rest 0 0) 101 ≡ false = is_other (get_or rest 0 0) 101 (head_ends rest ends) refl in
      let capital : eqb (get_or rest 0 0) 69 ≡ false = is_other (get_or rest 0 0) 69 (head_ends rest ends) refl in
      rw small (rw capital refl)
  exp_length-append (x ∷ xs) =
      ap (λ n. cond (eqb x 101 || eqb x 69) n 0)
      (ap (λ n. marked_length (1 + n) (x ∷ (xs ++ rest))) (sign_length-append xs)
      ∙ marked_length-append (1 + sign_length xs) (x ∷ xs) (omega (arith, sign_length-within xs)))

  frac_length-within : (s : List ℕ) → frac_length s ≤ length s
  frac_length-within [] = omega arith
  frac_length-within (x ∷ xs) = either (eqb x 46) (eqb (digits_length xs) 0)
    where
      either : (a b : Bool) → cond a (cond b 0 (1 + digits_length xs)) 0 ≤ suc (length xs)
      either false b = omega arith
      either true true = omega arith
      either true false = omega (arith, digits_length-within xs)

  unsigned_length-append : (s : List ℕ) → unsigned_length (s ++ rest) ≡ unsigned_length s
  unfolding unsigned_length
  unsigned_length-append s =
      let int = int_length s in
      let behind : drop int (s ++ rest) ≡ drop int s ++ rest = drop-append-le int s rest (int_length-within s) in
      let frac = frac_length (drop int s) in
      let far : int + frac ≤ length s = omega (arith, int_length-within s, frac_length-within (drop int s), length-drop int s) in
      let last : drop (int + frac) (s ++ rest) ≡ drop (int + frac) s ++ rest = drop-append-le (int + frac) s rest far in
      rw (int_length-append s) (rw behind (rw (frac_length-append (drop int s)) (rw last (rw (exp_length-append (drop (int + frac) s)) refl))))

  minus_length-within : (s : List ℕ) → minus_length s ≤ length s
  minus_length-within [] = omega arith
  minus_length-within (x ∷ xs) = one (eqb x 45)
    where
      one : (a : Bool) → cond a 1 0 ≤ suc (length xs)
      one true = omega arith
      one false = omega arith

  pub number_length-append : (s : List ℕ) → number_length (s ++ rest) ≡ number_length s
  unfolding number_length
  number_length-append s =
      let minus = minus_length s in
      let behind : drop minus (s ++ rest) ≡ drop minus s ++ rest = drop-append-le minus s rest (minus_length-within s) in
      rw (minus_length-append s) (rw behind (rw (unsigned_length-append (drop minus s)) refl))

-- ---- a number that its text spells has some text
some_behind : (xs ys : List ℕ) (b : ℕ) → 0 < length (xs ++ b ∷ ys)
some_behind xs ys b = omega (arith, length-append xs (b ∷ ys))

nothing_spelled : number_value [] ≡ Some (whole (pos 0))
unfolding number_value exact_value parts digits_length
nothing_spelled = refl

some_text : (s : List ℕ) (n : ℕ) → number_value s ≡ Some (whole (pos (suc n))) → 0 < length s
some_text [] n e = let none : Some (whole (pos 0)) ≡ Some (whole (pos (suc n))) = sym nothing_spelled ∙ e in absurd (no_zero n (ap value none))
  where
    value : Option Number → ℕ
    value None = 0
    value (Some (whole (pos m))) = m
    value (Some (whole (negsuc m))) = 0
    value (Some (decimal z)) = 0

    no_zero : (m : ℕ) → 0 ≡ suc m → ⊥
    no_zero m f = omega arith
some_text (b ∷ s) n e = omega arith

pub number_text-some : (n : Number) → number_value (text_of n) ≡ Some n → 0 < length (text_of n)
number_text-some (whole (pos zero)) e = rw (decimal_digit 0 (omega arith)) (omega arith)
number_text-some (whole (pos (suc n))) e = some_text (signed_decimal (pos (suc n))) n e
number_text-some (whole (negsuc n)) e = omega arith
number_text-some (decimal z) e = some_behind _ _ 46
