-- The text of a number is one number, and its value is that number.
use Rattle.std.proofs.Common.{◌≡◌, ◌≤◌, ◌<◌, ◌+◌, ◌-◌, ◌*◌, ◌/◌, ◌%◌, ◌^◌, ℕ, List, [], ◌∷◌, ◌++◌, length, take, drop, get_or, Bool, true, false, cond, eqb, ltb, refl, sym, ap, ◌∙◌, arith, append_assoc, append-nil, length-append, zero, suc, inl, inr, ◌⊎◌, ◌&&◌, lit<, Some}
use Rattle.std.proofs.Math.Nat.{mul-le-mul_right}
use Rattle.std.proofs.Math.Arith.{digits_div, digits_mod}
use Rattle.std.proofs.lemmas.Nat.{pow-add}
use Rattle.std.proofs.lemmas.Bool.{cases_lt, ne_eqb, le-leb}
use Rattle.std.proofs.lemmas.Bool.Decides.{nat_tests}
use Rattle.std.proofs.lemmas.List.{take_at, drop_at, take_all, drop_all, get_or_append_left}
use Rattle.std.proofs.lemmas.Fmt.{decimal_by_steps, length-decimal-le}
use Rattle.std.specs.Prelude.{ℤ, pos, negsuc, unsigned_abs}
use lib.Signed.{mag}
use Rattle.std.specs.Fmt.{signed_decimal}
use Rattle.text_base.specs.Number.{whole, decimal}
use Rattle.text_base.specs.Spelling.{is_digit, minus_length, int_length, frac_length, number_length}
use Rattle.text_base.specs.Value.{Parts, parts, digits_value, round_half_even, signed, fits_64, decimal_value, exact_value, number_value}
use Rattle.text_base.specs.Spelled.{AreDigits}
use Rattle.text_base.specs.Arithmetic.{is_negative, rounded_decimal}
use Rattle.text_base.specs.NumberText.{padded, trimmed, text_of}
use Rattle.text_base.proofs.SpellingLemmas.{not_digit, digits_length-digits, number_exact, exact_whole}
use Rattle.text_base.proofs.DigitsLemmas.{digits_value-append, counted_on-split}
use Rattle.text_base.proofs.FrontLemmas.{Cut, cut_length, cut_parts}
use Rattle.text_base.proofs.GrammarLemmas.{StopsAt, digits_length-stop}
use Rattle.text_base.proofs.PlacesLemmas.{power_positive, AreDigits-append}
use Rattle.text_base.proofs.TextLemmas.{trimmed_step, digit_below}

digit_is : (n : ℕ) → n < 10 → is_digit (48 + n) ≡ true
digit_is n l = grind (arith, nat_tests)

one_digit : (b : ℕ) → is_digit b ≡ true → AreDigits (b ∷ [])
one_digit b e zero l = e
one_digit b e (suc k) l = absurd (omega arith)

-- digits that spell a number: without zeros before it
record Spells (n : ℕ) (ds : List ℕ) : Type 0 where
  digits : AreDigits ds
  value : digits_value ds ≡ n
  some_digit : 0 < length ds
  lead : 0 < n → 48 < get_or ds 0 0
  lone : n ≡ 0 → length ds ≡ 1

Spells-one : (n : ℕ) → n < 10 → Spells n ((48 + n) ∷ [])
Spells-one n l = record {
  digits = one_digit (48 + n) (digit_is n l);
  value = omega arith;
  some_digit = omega arith;
  lead = λ h. omega arith;
  lone = λ h. refl;
}

Spells-more : (n : ℕ) (ds : List ℕ) → 10 ≤ n → Spells (n / 10) ds → Spells n (ds ++ ((48 + n % 10) ∷ []))
Spells-more n ds l s = record {
  digits = AreDigits-append ds ((48 + n % 10) ∷ []) s.digits (one_digit (48 + n % 10) (digit_is (n % 10) (omega arith)));
  value = digits_value-append ds ((48 + n % 10) ∷ []) ∙ (let v = s.value in let p : 10 ^ 1 ≡ 10 = refl in rw v (omega arith));
  some_digit = (let p = s.some_digit in let e = length-append ds ((48 + n % 10) ∷ []) in omega arith);
  lead = λ h. (let p = s.some_digit in rw (get_or_append_left ds ((48 + n % 10) ∷ []) 0 0 p) (s.lead (omega arith)));
  lone = λ h. absurd (omega arith);
}

decimal_spells : (n : ℕ) → n < 2 ^ 64 → Spells n (signed_decimal (pos n))
decimal_spells n l = decimal_by_steps (λ n ds. Spells n ds) Spells-one Spells-more n l

either_one : (b : Bool) → ◌≡◌ {A = ℕ} (cond b 1 1) 1
either_one true = refl
either_one false = refl

int_length-spelled : (n : ℕ) (ds bs : List ℕ) → Spells n ds → StopsAt bs → int_length (ds ++ bs) ≡ length ds
int_length-spelled n ds bs s e =
    let p = s.some_digit in
    rw (get_or_append_left ds bs 0 0 p) (rw (digits_length-stop ds bs s.digits e) (by_number (cases_lt 0 n)))
  where
    by_number : (0 < n) ⊎ (n ≤ 0) → cond (eqb (get_or ds 0 0) 48) 1 (length ds) ≡ length ds
    by_number (inl l) = let h = s.lead l in let f : eqb (get_or ds 0 0) 48 ≡ false = ne_eqb (get_or ds 0 0) 48 (λ z. omega arith) in rw f refl
    by_number (inr l) = let h : length ds ≡ 1 = s.lone (omega arith) in rw h (either_one (eqb (get_or ds 0 0) 48))

-- a minus sign where there is one
abbrev minus : Bool → List ℕ
minus b = cond b (45 ∷ []) []

minus_length-spelled : (b : Bool) (n : ℕ) (ds bs : List ℕ) → Spells n ds → minus_length (minus b ++ (ds ++ bs)) ≡ length (minus b)
minus_length-spelled true n ds bs s = refl
minus_length-spelled false n ds bs s =
    let p = s.some_digit in
    let d = s.digits 0 p in
    let f : eqb (get_or ds 0 0) 45 ≡ false = not_digit (get_or ds 0 0) 45 d (lit< tt) in
    rw (get_or_append_left ds bs 0 0 p) (rw f refl)

same_length : (bs : List ℕ) → bs ≡ take (length bs) bs
same_length bs = let n : length bs ≤ length bs = omega arith in sym (take_all (length bs) bs n)

nothing_left : (bs : List ℕ) → [] ≡ drop (length bs) bs
nothing_left bs = let n : length bs ≤ length bs = omega arith in sym (drop_all (length bs) bs n)

-- a sign, digits and what is all of frac are cut off one after another
cut : (b : Bool) (n : ℕ) (ds bs : List ℕ) → Spells n ds → StopsAt bs → length bs ≡ frac_length bs →
    Cut (minus b ++ (ds ++ bs)) (minus b) (ds ++ bs) ds bs bs [] [] [] (length (minus b)) (length ds) (length bs) 0
cut b n ds bs s e f = record {
  minus_is = sym (minus_length-spelled b n ds bs s);
  minus_front = sym (take_at (minus b) (ds ++ bs) (length (minus b)) refl);
  minus_back = sym (drop_at (minus b) (ds ++ bs) (length (minus b)) refl);
  minus_within = (let l = length-append (minus b) (ds ++ bs) in omega arith);
  int_is = sym (int_length-spelled n ds bs s e);
  int_front = sym (take_at ds bs (length ds) refl);
  int_back = sym (drop_at ds bs (length ds) refl);
  int_within = (let l = length-append ds bs in omega arith);
  frac_is = f;
  frac_front = same_length bs;
  frac_back = nothing_left bs;
  frac_within = omega arith;
  exp_is = refl;
  exp_front = refl;
  exp_back = refl;
  exp_within = omega arith;
}

one_minus : (b : Bool) → b ≡ eqb (length (minus b)) 1
one_minus true = refl
one_minus false = refl

and_true : (b : Bool) → b ≡ (b && true)
and_true true = refl
and_true false = refl

module _ (b : Bool) (n : ℕ) (ds bs : List ℕ) (s : Spells n ds) (e : StopsAt bs) (f : length bs ≡ frac_length bs) where
  length_spelled : length (minus b ++ (ds ++ bs)) ≡ length (minus b) + (length ds + (length bs + 0))
  length_spelled = let l = length-append (minus b) (ds ++ bs) in let m = length-append ds bs in omega arith

  -- the whole text is one number
  one_number : number_length (minus b ++ (ds ++ bs)) ≡ length (minus b ++ (ds ++ bs))
  one_number = cut_length _ _ _ _ _ _ _ _ _ _ _ _ _ (cut b n ds bs s e f) s.some_digit ∙ sym length_spelled

  parts_spelled : parts (minus b ++ (ds ++ bs)) ≡ record {
    is_negative = b;
    int = ds;
    frac = drop 1 bs;
    exponent_is_negative = false;
    exponent = [];
    is_whole = eqb (length bs) 0;
  }
  parts_spelled =
      let t = minus b ++ (ds ++ bs) in
      let p : Parts = record { is_negative = b; int = ds; frac = drop 1 bs; exponent_is_negative = false; exponent = []; is_whole = eqb (length bs) 0 } in
      let q : p ≡ parts (take (number_length t) t) = cut_parts _ _ _ _ _ _ _ _ _ _ _ _ _ (cut b n ds bs s e f) p s.some_digit (one_minus b) refl refl refl refl (and_true (eqb (length bs) 0)) in
      let w : take (number_length t) t ≡ t = ap (λ k. take k t) one_number ∙ sym (same_length t) in
      sym (q ∙ ap parts w)

-- a whole number's text
signed_again : (z : ℤ) → signed (is_negative z) (unsigned_abs z) ≡ z
signed_again (pos n) = refl
signed_again (negsuc n) = let e : eqb (suc n) 0 ≡ false = ne_eqb (suc n) 0 (λ z. omega arith) in rw e (let f : suc n - 1 ≡ n = omega arith in rw f refl)

minus_short : (b : Bool) → length (minus b) ≤ 1
minus_short true = omega arith
minus_short false = omega arith

fits_again : (z : ℤ) → mag z < 2 ^ 63 → fits_64 (is_negative z) (unsigned_abs z) ≡ true
fits_again (pos n) l = le-leb (suc n) (2 ^ 63) l
fits_again (negsuc n) l = le-leb (suc n) (2 ^ 63) l

module _ (b : Bool) (n : ℕ) (ds : List ℕ) (s : Spells n ds) (w : length (minus b ++ (ds ++ [])) ≤ 64) where
  whole_again : fits_64 b n ≡ true → number_value (minus b ++ (ds ++ [])) ≡ Some (whole (signed b n))
  whole_again f =
      let p = parts_spelled b n ds [] s refl refl in
      let v = s.value in
      number_exact (minus b ++ (ds ++ [])) w
      ∙ (exact_whole (minus b ++ (ds ++ [])) b ds (ap (λ (q : Parts). q.is_whole) p) (ap (λ (q : Parts). q.is_negative) p) (ap (λ (q : Parts). q.int) p) (rw v f)
      ∙ ap (λ k. Some (whole (signed b k))) v)

signed_decimal_is : (z : ℤ) → signed_decimal z ≡ minus (is_negative z) ++ (signed_decimal (pos (unsigned_abs z)) ++ [])
signed_decimal_is (pos n) = sym (append-nil (signed_decimal (pos n)))
signed_decimal_is (negsuc n) = ap (λ t. 45 ∷ t) (sym (append-nil (signed_decimal (pos (suc n)))))

size_below : (z : ℤ) → mag z < 2 ^ 63 → unsigned_abs z < 2 ^ 64
size_below (pos n) l = omega arith
size_below (negsuc n) l = omega arith

pub whole_reads_back : (z : ℤ) → mag z < 2 ^ 63 → (number_length (text_of (whole z)) ≡ length (text_of (whole z))) × (number_value (text_of (whole z)) ≡ Some (whole z))
whole_reads_back z l =
    let b = is_negative z in
    let n = unsigned_abs z in
    let ds = signed_decimal (pos n) in
    let q = size_below z l in
    let s = decimal_spells n q in
    let m = length-decimal-le 20 n (lit< tt) (omega arith) q in
    let k = minus_short b in
    let e = length-append (minus b) (ds ++ []) in
    let f = length-append ds [] in
    let w : length (minus b ++ (ds ++ [])) ≤ 64 = omega arith in
    rw (signed_decimal_is z) (one_number b n ds [] s refl refl, whole_again b n ds s w (fits_again z l) ∙ ap (λ y. Some (whole y)) (signed_again z))

-- the decimals of a count, and what they count
record Decimals (k n : ℕ) (ds : List ℕ) : Type 0 where
  digits : AreDigits ds
  some_digit : 0 < length ds
  few : length ds ≤ k
  value : digits_value ds * 10 ^ (k - length ds) ≡ n

cons_digits : (b : ℕ) (ds : List ℕ) → is_digit b ≡ true → AreDigits ds → AreDigits (b ∷ ds)
cons_digits b ds e h zero l = e
cons_digits b ds e h (suc k) l = h k (omega arith)

regrouped : (q a v c : ℕ) → (q * a + v) * c ≡ q * (a * c) + v * c
regrouped q a v c = omega arith

joined_value : (q v a c p r n : ℕ) → a * c ≡ p → v * c ≡ r → p * q + r ≡ n → (q * a + v) * c ≡ n
joined_value q v a c p r n e f g = regrouped q a v c ∙ rw e (rw f (omega arith))

first_value : (q k n : ℕ) → 10 ^ k * q + 0 ≡ n → (0 + (48 + q - 48)) * 10 ^ (suc k - 1) ≡ n
first_value q k n e =
    let a : suc k - 1 ≡ k = omega arith in
    let b : 0 + (48 + q - 48) ≡ q = omega arith in
    rw a (rw b (omega arith))

next_value : (q k n r : ℕ) (ds : List ℕ) → length ds ≤ k → digits_value ds * 10 ^ (k - length ds) ≡ r → 10 ^ k * q + r ≡ n → digits_value ((48 + q) ∷ ds) * 10 ^ (suc k - suc (length ds)) ≡ n
next_value q k n r ds l v e =
    let j = length ds in
    let a : suc k - suc j ≡ k - j = omega arith in
    let b : 10 * 0 + (48 + q - 48) ≡ q = omega arith in
    let c : digits_value ((48 + q) ∷ ds) ≡ q * 10 ^ j + digits_value ds = counted_on-split (10 * 0 + (48 + q - 48)) ds ∙ ap (λ x. x * 10 ^ j + digits_value ds) b in
    let g : j + (k - j) ≡ k = omega arith in
    let p : 10 ^ j * 10 ^ (k - j) ≡ 10 ^ k = sym (pow-add 10 j (k - j)) ∙ ap (λ x. 10 ^ x) g in
    rw a (rw c (joined_value q (digits_value ds) (10 ^ j) (10 ^ (k - j)) (10 ^ k) r n p v e))

decimals_step : (k n : ℕ) → n < 10 ^ suc k → (0 < n % 10 ^ k → Decimals k (n % 10 ^ k) (trimmed (padded k (n % 10 ^ k)))) → Decimals (suc k) n (trimmed (padded (suc k) n))
decimals_step k n l h = rw (trimmed_step k n) (by_rest (cases_lt 0 (n % 10 ^ k)))
  where
    digit : is_digit (48 + n / 10 ^ k) ≡ true
    digit = digit_is (n / 10 ^ k) (digit_below k n l)

    whole_of : 10 ^ k * (n / 10 ^ k) + n % 10 ^ k ≡ n
    whole_of = let p = power_positive k in omega arith

    by_rest : (0 < n % 10 ^ k) ⊎ (n % 10 ^ k ≤ 0) → Decimals (suc k) n ((48 + n / 10 ^ k) ∷ cond (eqb (n % 10 ^ k) 0) [] (trimmed (padded k (n % 10 ^ k))))
    by_rest (inr z) =
        let e : n % 10 ^ k ≡ 0 = omega arith in
        let w = whole_of in
        rw e (record {
          digits = cons_digits (48 + n / 10 ^ k) [] digit (λ i m. absurd (omega arith));
          some_digit = omega arith;
          few = omega arith;
          value = first_value (n / 10 ^ k) k n (omega arith);
        })
    by_rest (inl z) =
        let d = h z in
        rw (ne_eqb (n % 10 ^ k) 0 (λ e. omega arith)) (record {
          digits = cons_digits (48 + n / 10 ^ k) (trimmed (padded k (n % 10 ^ k))) digit d.digits;
          some_digit = omega arith;
          few = (let f = d.few in omega arith);
          value = next_value (n / 10 ^ k) k n (n % 10 ^ k) (trimmed (padded k (n % 10 ^ k))) d.few d.value whole_of;
        })

decimals : (k n : ℕ) → n < 10 ^ suc k → Decimals (suc k) n (trimmed (padded (suc k) n))
decimals zero n l = decimals_step zero n l (λ h. absurd (omega arith))
decimals (suc k) n l = decimals_step (suc k) n l (λ h. decimals k (n % 10 ^ suc k) (let p = power_positive (suc k) in omega arith))

-- an exact quotient is rounded to itself
exact_quotient : (x d : ℕ) → 0 < d → round_half_even (x * d) d ≡ x
exact_quotient x d p =
    let e : x * d ≡ x * d + 0 = omega arith in
    let q : (x * d) / d ≡ x = ap (λ y. y / d) e ∙ digits_div x p in
    let r : (x * d) % d ≡ 0 = ap (λ y. y % d) e ∙ digits_mod x p in
    let t : ltb (2 * 0) d ≡ true = le-leb 1 d p in
    rw r (rw t q)

scaled_pair : (w a v c : ℕ) → (w * a + v) * (c * a) ≡ (w * (c * a) + v * c) * a
scaled_pair w a v c = omega arith

-- the size of a decimal, from its whole part and its decimals
size_again : (size w v j : ℕ) → w ≡ size / 10 ^ 9 → j ≤ 9 → v * 10 ^ (9 - j) ≡ size % 10 ^ 9 → (w * 10 ^ j + v) * 10 ^ 9 ≡ size * 10 ^ j
size_again size w v j e l f =
    let a = 10 ^ j in
    let c = 10 ^ (9 - j) in
    let g : (9 - j) + j ≡ 9 = omega arith in
    let p : c * a ≡ 10 ^ 9 = sym (pow-add 10 (9 - j) j) ∙ ap (λ x. 10 ^ x) g in
    let q : w * (c * a) + v * c ≡ size = rw p (rw f (rw e (omega arith))) in
    ap (λ x. (w * a + v) * x) (sym p) ∙ (scaled_pair w a v c ∙ ap (λ x. x * a) q)

exact_decimal : (b : Bool) (n d size : ℕ) → 0 < d → n ≡ size * d → size < 10 ^ 27 → rounded_decimal b n d ≡ Some (decimal (signed b size))
exact_decimal b n d size p e l =
    let q : round_half_even n d ≡ size = ap (λ x. round_half_even x d) e ∙ exact_quotient size d p in
    let m : suc size * d ≤ 10 ^ 27 * d = mul-le-mul_right d l in
    let t : ltb n (10 ^ 27 * d) ≡ true = rw e (le-leb (suc (size * d)) (10 ^ 27 * d) (omega arith)) in
    let u : ltb size (10 ^ 27) ≡ true = le-leb (suc size) (10 ^ 27) l in
    rw t (rw q (rw u refl))

of_parts : (s : List ℕ) (p : Parts) → parts s ≡ p → p.is_whole ≡ false → exact_value s ≡ decimal_value p
unfolding exact_value
of_parts s p e w = rw e (rw w refl)

frac_alone : (ds : List ℕ) → AreDigits ds → 0 < length ds → length (46 ∷ ds) ≡ frac_length (46 ∷ ds)
frac_alone ds h l =
    let e : eqb (length ds) 0 ≡ false = ne_eqb (length ds) 0 (λ z. omega arith) in
    rw (digits_length-digits ds h) (rw e (omega arith))

module _ (b : Bool) (size : ℕ) (l : size < 10 ^ 27) where
  spells : Spells (size / 10 ^ 9) (signed_decimal (pos (size / 10 ^ 9)))
  spells = decimal_spells (size / 10 ^ 9) (omega arith)

  places : Decimals 9 (size % 10 ^ 9) (trimmed (padded 9 (size % 10 ^ 9)))
  places = decimals 8 (size % 10 ^ 9) (omega arith)

  frac_is_all : length (46 ∷ trimmed (padded 9 (size % 10 ^ 9))) ≡ frac_length (46 ∷ trimmed (padded 9 (size % 10 ^ 9)))
  frac_is_all = let d = places in frac_alone (trimmed (padded 9 (size % 10 ^ 9))) d.digits d.some_digit

  decimal_is_one : number_length (minus b ++ (signed_decimal (pos (size / 10 ^ 9)) ++ 46 ∷ trimmed (padded 9 (size % 10 ^ 9)))) ≡ length (minus b ++ (signed_decimal (pos (size / 10 ^ 9)) ++ 46 ∷ trimmed (padded 9 (size % 10 ^ 9))))
  decimal_is_one = one_number b (size / 10 ^ 9) (signed_decimal (pos (size / 10 ^ 9))) (46 ∷ trimmed (padded 9 (size % 10 ^ 9))) spells refl frac_is_all

  short_text : length (minus b ++ (signed_decimal (pos (size / 10 ^ 9)) ++ 46 ∷ trimmed (padded 9 (size % 10 ^ 9)))) ≤ 64
  short_text =
      let m = length-decimal-le 18 (size / 10 ^ 9) (lit< tt) (omega arith) (omega arith) in
      let d = places in
      let f = d.few in
      let k = minus_short b in
      let e = length-append (minus b) (signed_decimal (pos (size / 10 ^ 9)) ++ 46 ∷ trimmed (padded 9 (size % 10 ^ 9))) in
      let g = length-append (signed_decimal (pos (size / 10 ^ 9))) (46 ∷ trimmed (padded 9 (size % 10 ^ 9))) in
      omega arith

  same_size : digits_value (signed_decimal (pos (size / 10 ^ 9)) ++ trimmed (padded 9 (size % 10 ^ 9))) * 10 ^ 9 ≡ size * 10 ^ length (trimmed (padded 9 (size % 10 ^ 9)))
  same_size =
      let d = places in
      let s = spells in
      rw (digits_value-append (signed_decimal (pos (size / 10 ^ 9))) (trimmed (padded 9 (size % 10 ^ 9))))
      (size_again size (digits_value (signed_decimal (pos (size / 10 ^ 9)))) (digits_value (trimmed (padded 9 (size % 10 ^ 9)))) (length (trimmed (padded 9 (size % 10 ^ 9)))) s.value d.few d.value)

  decimal_again : number_value (minus b ++ (signed_decimal (pos (size / 10 ^ 9)) ++ 46 ∷ trimmed (padded 9 (size % 10 ^ 9)))) ≡ Some (decimal (signed b size))
  decimal_again =
      let ds = signed_decimal (pos (size / 10 ^ 9)) in
      let fs = trimmed (padded 9 (size % 10 ^ 9)) in
      let t = minus b ++ (ds ++ 46 ∷ fs) in
      let p : Parts = record { is_negative = b; int = ds; frac = fs; exponent_is_negative = false; exponent = []; is_whole = eqb (suc (length fs)) 0 } in
      let z : length fs ≡ length fs + 0 = omega arith in
      let n : digits_value (ds ++ fs) * 10 ^ 9 ≡ size * 10 ^ (length fs + 0) = same_size ∙ ap (λ k. size * 10 ^ k) z in
      number_exact t short_text
      ∙ (of_parts t p (parts_spelled b (size / 10 ^ 9) ds (46 ∷ fs) spells refl frac_is_all) (ne_eqb (suc (length fs)) 0 (λ y. omega arith))
      ∙ exact_decimal b (digits_value (ds ++ fs) * 10 ^ 9) (10 ^ (length fs + 0)) size (power_positive (length fs + 0)) n l)

pub decimal_reads_back : (z : ℤ) → unsigned_abs z < 10 ^ 27 → (number_length (text_of (decimal z)) ≡ length (text_of (decimal z))) × (number_value (text_of (decimal z)) ≡ Some (decimal z))
decimal_reads_back z l =
    let b = is_negative z in
    let size = unsigned_abs z in
    rw (append_assoc (minus b) (signed_decimal (pos (size / 10 ^ 9))) (46 ∷ trimmed (padded 9 (size % 10 ^ 9))))
    (decimal_is_one b size l, decimal_again b size l ∙ ap (λ y. Some (decimal y)) (signed_again z))
