-- Decimal numbers and ranges, written and read back.
use Rattle.std.proofs.Common.{◌≡◌, ◌^◌, ℕ, suc, ◌+◌, ◌<◌, List, [], ◌∷◌, ◌++◌, length, drop, reverse, refl, sym, ap, ◌∙◌, arith, rules, append-nil, append_assoc, length-append, true, false, inl, inr, one-add}
use Rattle.std.specs.Prelude.{Bool, not, ◌==◌, Some, codes, decimal, IsTrue, nat_lt}
use Rattle.std.specs.List.{list_all, prefix_len, position_or_len}
use Rattle.std.specs.Char.{is_ascii_digit}
use Rattle.std.specs.Str.Parse.{digits_value}
use Rattle.std.proofs.lemmas.Bool.{cases_Bool, and_parts, cond-true, cond-false, lt-ltb, eq-eqb}
use Rattle.std.proofs.lemmas.Bool.Decides.{nat_tests}
use Rattle.std.proofs.lemmas.List.{reverse-append, length-reverse}
use Rattle.std.proofs.lemmas.List.Elements.{All-append, All-weaker}
use Rattle.std.proofs.lemmas.Slice.Eq.{bytes_eq-Decides}
use Rattle.std.proofs.lemmas.Fmt.{digits_decimal, digits_value-decimal, decimal_nonempty}
use Rattle.std.proofs.lemmas.Str.Parse.{IsNumeralModel, numerals_by_value}
use Rattle.std.proofs.Math.Seq.{take-append_seam}
use Rattle.url.proofs.InputLemmas.{Passes, All_from_list_all, list_all_from_All}
use Rattle.httparse.specs.Grammar.{AllPass, is_value_byte, is_ows, skip_ows, trim_ows}
use Rattle.httparse.proofs.TrimLemmas.{trim_ows_space, AllPass-reverse}
use Rattle.http_reply.specs.Fields.{number, range_in, range_value, before, behind_first, is_star}
use Rattle.http_reply.specs.declared.range.Range.TheVariants.{Part, Past}

-- ---- decimal numbers

abbrev pub are_digits : List ℕ → Bool
are_digits bytes = list_all is_ascii_digit bytes

own : IsNumeralModel (λ ds. are_digits ds ≡ true) (digits_value 10)
own = numerals_by_value _ (search rules)

pub decimal_digits : (n : ℕ) → n < 2 ^ 64 → are_digits (decimal n) ≡ true
decimal_digits n fits = digits_decimal own n fits

pub decimal_value : (n : ℕ) → n < 2 ^ 64 → digits_value 10 (decimal n) ≡ n
decimal_value n fits = digits_value-decimal own n fits

pub number_decimal : (n : ℕ) → n < 2 ^ 64 → number (decimal n) ≡ Some n
unfolding number
number_decimal n fits =
    let some : nat_lt 0 (length (decimal n)) ≡ true = lt-ltb 0 (length (decimal n)) (decimal_nonempty n fits) in
    rw (some, decimal_digits n fits, decimal_value n fits) (ap Some (omega (arith, fits)))

digit_other : (c b : ℕ) → is_ascii_digit c ≡ false → Passes is_ascii_digit b → Passes (λ x. not (x == c)) b
digit_other c b not_ is =
    elim (cases_Bool (b == c)) [
      | inl same ↦ absurd (grind (arith, nat_tests, not_, is, same))
      | inr other ↦ rw other refl
    ]

-- no digit is this byte
pub digits_other : (c : ℕ) (ds : List ℕ) → is_ascii_digit c ≡ false → are_digits ds ≡ true → list_all (λ x. not (x == c)) ds ≡ true
digits_other c ds not_ all =
    list_all_from_All (λ x. not (x == c)) ds
    (All-weaker (Passes is_ascii_digit) (Passes (λ x. not (x == c))) (λ b is. digit_other c b not_ is) ds (All_from_list_all is_ascii_digit ds all))

pub digits_bytes : (ds : List ℕ) → are_digits ds ≡ true → AllPass is_value_byte ds
digits_bytes ds all =
    All-weaker (Passes is_ascii_digit) (λ b. IsTrue (is_value_byte b)) value_digit ds (All_from_list_all is_ascii_digit ds all)
  where
    value_digit : (b : ℕ) → Passes is_ascii_digit b → IsTrue (is_value_byte b)
    value_digit b is = grind (arith, nat_tests)

-- ---- a list up to the first byte that fails or passes

pub prefix_at : (p : ℕ → Bool) (xs : List ℕ) (y : ℕ) (ys : List ℕ) → list_all p xs ≡ true → p y ≡ false
    → prefix_len p (xs ++ y ∷ ys) ≡ length xs
prefix_at p [] y ys all not_ = cond-false _ _ _ not_
prefix_at p (x ∷ xs) y ys all not_ =
    let parts = and_parts _ _ all in
    cond-true _ _ _ parts.0 ∙ ap (λ (n : ℕ). 1 + n) (prefix_at p xs y ys parts.1 not_) ∙ one-add (length xs)

first_is : (c : ℕ) (xs ys : List ℕ) → list_all (λ x. not (x == c)) xs ≡ true → position_or_len (λ x. x == c) (xs ++ c ∷ ys) ≡ length xs
first_is c xs ys none = prefix_at (λ x. not (x == c)) xs c ys none (let same : (c == c) ≡ true = eq-eqb c c refl in rw same refl)

pub before_at : (c : ℕ) (xs ys : List ℕ) → list_all (λ x. not (x == c)) xs ≡ true → before c (xs ++ c ∷ ys) ≡ xs
before_at c xs ys none = rw (first_is c xs ys none) (take-append_seam xs (c ∷ ys))

drop_seam : (c : ℕ) (xs ys : List ℕ) → drop (length xs + 1) (xs ++ c ∷ ys) ≡ ys
drop_seam c [] ys = refl
drop_seam c (x ∷ xs) ys = let e : length (x ∷ xs) + 1 ≡ suc (length xs + 1) = omega arith in rw e (drop_seam c xs ys)

pub behind_at : (c : ℕ) (xs ys : List ℕ) → list_all (λ x. not (x == c)) xs ≡ true → behind_first c (xs ++ c ∷ ys) ≡ ys
behind_at c xs ys none = rw (first_is c xs ys none) (drop_seam c xs ys)

-- ---- the values of fields

no_space : (b : ℕ) → is_ascii_digit b ≡ true → is_ows b ≡ false
no_space b is = grind (arith, nat_tests)

skip_digits : (ds rest : List ℕ) → 0 < length ds → are_digits ds ≡ true → skip_ows (ds ++ rest) ≡ ds ++ rest
skip_digits [] rest some all = absurd (omega arith)
skip_digits (d ∷ ds) rest some all = cond-false _ _ _ (no_space d (and_parts _ _ all).0)

digits_reverse : (ds : List ℕ) → are_digits ds ≡ true → are_digits (reverse ds) ≡ true
digits_reverse ds all = list_all_from_All is_ascii_digit (reverse ds) (AllPass-reverse is_ascii_digit ds (All_from_list_all is_ascii_digit ds all))

-- what ends with digits has no white space at its end
pub trim_digits : (front ds : List ℕ) → skip_ows (front ++ ds) ≡ front ++ ds → 0 < length ds → are_digits ds ≡ true → trim_ows (32 ∷ (front ++ ds)) ≡ front ++ ds
trim_digits front ds begins some all =
    let turned = reverse-append front ds in
    let some' : 0 < length (reverse ds) = omega (arith, length-reverse ds, some) in
    trim_ows_space (front ++ ds) begins
    (ap skip_ows turned ∙ skip_digits (reverse ds) (reverse front) some' (digits_reverse ds all) ∙ sym turned)

pub trim_decimal : (n : ℕ) → n < 2 ^ 64 → trim_ows (32 ∷ decimal n) ≡ decimal n
trim_decimal n fits =
    let some = decimal_nonempty n fits in
    let all = decimal_digits n fits in
    trim_digits [] (decimal n)
    (ap skip_ows (sym (append-nil (decimal n))) ∙ skip_digits (decimal n) [] some all ∙ append-nil (decimal n)) some all

-- ---- the Content-Range

abbrev pub range_digits : ℕ → ℕ → ℕ → List ℕ
range_digits a b n = decimal a ++ (45 ∷ (decimal b ++ (47 ∷ decimal n)))

not_star : (a : ℕ) (rest : List ℕ) → a < 2 ^ 64 → is_star (decimal a ++ (45 ∷ rest)) ≡ false
not_star a rest fits =
    elim (cases_Bool (is_star (decimal a ++ (45 ∷ rest)))) [
      | inl is ↦
          let same = ap (λ (l : List ℕ). length l) ((bytes_eq-Decides (decimal a ++ (45 ∷ rest)) (codes "*")).0 is) in
          absurd (omega (arith, same, length-append (decimal a) (45 ∷ rest), decimal_nonempty a fits))
      | inr not_ ↦ not_
    ]

range_read : (a b n : ℕ) → a < 2 ^ 64 → b < 2 ^ 64 → n < 2 ^ 64 → range_in (range_digits a b n) ≡ Part a b n
unfolding range_in
range_read a b n fa fb fn =
    let front = decimal a ++ (45 ∷ decimal b) in
    let split : range_digits a b n ≡ front ++ (47 ∷ decimal n) = sym (append_assoc (decimal a) (45 ∷ decimal b) (47 ∷ decimal n)) in
    let none : list_all (λ x. not (x == 47)) front ≡ true =
    list_all_from_All (λ x. not (x == 47)) front
    (All-append (Passes (λ x. not (x == 47))) (decimal a) (45 ∷ decimal b)
    (All_from_list_all (λ x. not (x == 47)) (decimal a) (digits_other 47 (decimal a) refl (decimal_digits a fa)))
    (All_from_list_all (λ x. not (x == 47)) (45 ∷ decimal b) (digits_other 47 (decimal b) refl (decimal_digits b fb)))) in
    let first = before_at 47 front (decimal n) none in
    let size = behind_at 47 front (decimal n) none in
    let dash = digits_other 45 (decimal a) refl (decimal_digits a fa) in
    rw split (rw (first, size) (rw (not_star a (decimal b) fa, before_at 45 (decimal a) (decimal b) dash, behind_at 45 (decimal a) (decimal b) dash, number_decimal a fa, number_decimal b fb, number_decimal n fn) refl))

pub range_value_part : (a b n : ℕ) → a < 2 ^ 64 → b < 2 ^ 64 → n < 2 ^ 64
    → range_value (codes "bytes " ++ range_digits a b n) ≡ Part a b n
unfolding range_value
range_value_part a b n fa fb fn = range_read a b n fa fb fn

pub range_value_past : (n : ℕ) → n < 2 ^ 64 → range_value (codes "bytes */" ++ decimal n) ≡ Past n
unfolding range_value range_in
range_value_past n fn = rw (number_decimal n fn) refl
