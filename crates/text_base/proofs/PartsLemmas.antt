-- The parts of the number at the front of a text are digits, and no longer than the number.
use Rattle.std.proofs.Common.{◌≡◌, ◌≤◌, ◌<◌, ◌+◌, ◌-◌, ℕ, List, length, take, drop, Bool, true, false, cond, eqb, get_or, refl, sym, ap, ◌∙◌, arith, get_or-drop, get_or-take, length-drop, length-take, suc, zero, min, inl, inr, ◌⊎◌, ◌||◌}
use Rattle.std.proofs.lemmas.List.{drop-take}
use Rattle.std.proofs.lemmas.Bool.Decides.{nat_tests}
use Rattle.std.proofs.lemmas.Bool.{ne_eqb}
use Rattle.text_base.specs.Spelling.{is_digit, digits_length, sign_length, int_length, frac_length, exp_length, marked_length, number_length}
use Rattle.text_base.specs.Value.{Parts, parts}
use Rattle.text_base.specs.Spelled.{AreDigits, HasDigits}
use Rattle.text_base.proofs.FrontLemmas.{digits_before, sign_length-take, from_int, from_frac, from_exp, parts_at_front, number_length_is}

-- digits that a front of a run of digits holds
pub front_digits : (n : ℕ) (bs : List ℕ) → n ≤ digits_length bs → AreDigits (take n bs)
front_digits n bs w k l =
    let t : length (take n bs) ≡ min n (length bs) = length-take n bs in
    let m : k < n = omega arith in
    rw (get_or-take n bs k 0 m) (digits_before bs k (omega arith))

zero_digit : (b : ℕ) → eqb b 48 ≡ true → is_digit b ≡ true
zero_digit b e = grind (arith, nat_tests)

pub int_digits : (bs : List ℕ) → AreDigits (take (int_length bs) bs)
int_digits bs = by_head (eqb (get_or bs 0 0) 48) refl
  where
    by_head : (b : Bool) → eqb (get_or bs 0 0) 48 ≡ b → AreDigits (take (cond b 1 (digits_length bs)) bs)
    by_head true e k l =
        let t : length (take 1 bs) ≡ min 1 (length bs) = length-take 1 bs in
        let z : k ≡ 0 = omega arith in
        let o : 0 < 1 = omega arith in
        rw z (rw (get_or-take 1 bs 0 0 o) (zero_digit (get_or bs 0 0) e))
    by_head false e k l = front_digits (digits_length bs) bs (omega arith) k l

-- the digits behind a mark, in what the mark and the digits take together
marked_digits : (mark : ℕ) (bs : List ℕ) → AreDigits (drop mark (take (marked_length mark bs) bs))
marked_digits mark bs k l =
    let n = marked_length mark bs in
    let t : length (take n bs) ≡ min n (length bs) = length-take n bs in
    let d : k < length (take n bs) - mark = simp length-drop at l in
    let m : mark + k < n = omega arith in
    let u : n ≤ mark + digits_length (drop mark bs) = marked_le (digits_length (drop mark bs)) mark in
    let e : get_or bs (mark + k) 0 ≡ get_or (drop mark bs) k 0 = sym (get_or-drop mark bs k 0) in
    rw (get_or-drop mark (take n bs) k 0) (rw (get_or-take n bs (mark + k) 0 m) (rw e (digits_before (drop mark bs) k (omega arith))))
  where
    marked_le : (d m : ℕ) → cond (eqb d 0) 0 (m + d) ≤ m + d
    marked_le d m = grind (arith, nat_tests)

no_digits : (bs : List ℕ) (n : ℕ) → AreDigits (drop n (take 0 bs))
no_digits bs n k l = let d : k < length (take 0 bs) - n = simp length-drop at l in absurd (omega arith)

frac_are_digits : (bs : List ℕ) → AreDigits (drop 1 (take (frac_length bs) bs))
frac_are_digits bs = by_head (eqb (get_or bs 0 0) 46)
  where
    by_head : (b : Bool) → AreDigits (drop 1 (take (cond b (marked_length 1 bs) 0) bs))
    by_head true = marked_digits 1 bs
    by_head false = no_digits bs 1

sign_at_front : (n : ℕ) (bs : List ℕ) → 1 < n → sign_length (drop 1 (take n bs)) ≡ sign_length (drop 1 bs)
sign_at_front n bs l =
    let e : 1 + (n - 1) ≡ n = omega arith in
    let t : drop 1 (take n bs) ≡ take (n - 1) (drop 1 bs) = ap (λ k. drop 1 (take k bs)) (sym e) ∙ drop-take 1 (n - 1) bs in
    ap sign_length t ∙ sign_length-take (n - 1) (drop 1 bs) (omega arith)

exp_are_digits : (bs : List ℕ) → AreDigits (drop (1 + sign_length (drop 1 (take (exp_length bs) bs))) (take (exp_length bs) bs))
exp_are_digits bs = by_head (eqb (get_or bs 0 0) 101 || eqb (get_or bs 0 0) 69)
  where
    by_digits : (n : ℕ) → n ≡ marked_length (1 + sign_length (drop 1 bs)) bs → (n ≡ 0) ⊎ (1 < n) → AreDigits (drop (1 + sign_length (drop 1 (take n bs))) (take n bs))
    by_digits n e (inl z) = rw z (no_digits bs (1 + sign_length (drop 1 (take 0 bs))))
    by_digits n e (inr l) = rw (sign_at_front n bs l) (rw e (marked_digits (1 + sign_length (drop 1 bs)) bs))

    none_or_two : (d m : ℕ) → 1 ≤ m → (cond (eqb d 0) 0 (m + d) ≡ 0) ⊎ (1 < cond (eqb d 0) 0 (m + d))
    none_or_two zero m l = inl refl
    none_or_two (suc d) m l = let e : eqb (suc d) 0 ≡ false = ne_eqb (suc d) 0 (λ z. omega arith) in rw e (inr (omega arith))

    by_head : (b : Bool) → AreDigits (drop (1 + sign_length (drop 1 (take (cond b (marked_length (1 + sign_length (drop 1 bs)) bs) 0) bs))) (take (cond b (marked_length (1 + sign_length (drop 1 bs)) bs) 0) bs))
    by_head true = by_digits (marked_length (1 + sign_length (drop 1 bs)) bs) refl (none_or_two (digits_length (drop (1 + sign_length (drop 1 bs)) bs)) (1 + sign_length (drop 1 bs)) (omega arith))
    by_head false = no_digits bs (1 + sign_length (drop 1 (take 0 bs)))

parts_have_digits : (bs : List ℕ) → 0 < int_length (from_int bs) → HasDigits (parts (take (number_length bs) bs))
parts_have_digits bs l = rw (parts_at_front bs l) (record {
  int = int_digits (from_int bs);
  frac = frac_are_digits (from_frac bs);
  exponent = exp_are_digits (from_exp bs);
})

short_frac : (n f : ℕ) (bs : List ℕ) → length (drop 1 (take f bs)) ≤ f
short_frac n f bs =
    let t = length-take f bs in
    rw (length-drop 1 (take f bs)) (omega arith)

parts_are_short : (bs : List ℕ) → 0 < int_length (from_int bs) → length (parts (take (number_length bs) bs)).int + length (parts (take (number_length bs) bs)).frac ≤ number_length bs
parts_are_short bs l =
    let n = number_length_is bs l in
    let i = length-take (int_length (from_int bs)) (from_int bs) in
    let f = short_frac 0 (frac_length (from_frac bs)) (from_frac bs) in
    rw (parts_at_front bs l) (omega arith)

pub short_parts : (p : Parts) (bs : List ℕ) → p ≡ parts (take (number_length bs) bs) → 0 < int_length (from_int bs) → length p.int + length p.frac ≤ number_length bs
short_parts p bs e l = rw e (parts_are_short bs l)

pub digit_parts : (p : Parts) (bs : List ℕ) → p ≡ parts (take (number_length bs) bs) → 0 < int_length (from_int bs) → HasDigits p
digit_parts p bs e l = rw e (parts_have_digits bs l)
