-- The digits before the place of 10^-10 count the tenths of a thousand-millionth, and those behind it are cut off.
use Rattle.std.proofs.Common.{◌≡◌, ◌≤◌, ◌<◌, ◌+◌, ◌-◌, ◌*◌, ◌/◌, ◌%◌, ◌^◌, ℕ, List, [], ◌∷◌, ◌++◌, length, take, drop, Bool, true, false, cond, eqb, refl, sym, ap, ◌∙◌, arith, not, zero, ◌||◌, length-append, suc, length-drop, get_or-drop, append-nil, min, inl, inr, lit<, ◌⊎◌}
use Rattle.std.proofs.Math.Nat.{one-le-pow, pow-suc, mul-le-mul, mul-le-mul_left, mul-le-mul_right, pow-le-pow_right}
use Rattle.std.proofs.Math.Arith.{digits_div, digits_mod}
use Rattle.std.proofs.Math.Seq.{take-append-add, drop-append-add}
use Rattle.std.proofs.lemmas.Nat.{pow-add}
use Rattle.std.proofs.lemmas.List.{take-append-le, drop-append-le, take_all, drop_all}
use Rattle.std.proofs.lemmas.List.Sums.{fold-append}
use Rattle.std.proofs.lemmas.Bool.{cases_lt, ne_eqb}
use Rattle.text_base.specs.Value.{digits_value, Parts, numerator, denominator}
use Rattle.std.specs.Prelude.{if◌then◌else◌}
use Rattle.text_base.specs.Rounding.{AreTenths}
use Rattle.text_base.specs.Spelled.{AreDigits, counted_on, place}
use Rattle.text_base.proofs.SpellingLemmas.{digits_value-below}
use Rattle.text_base.proofs.DigitsLemmas.{counted_on-split, digits_value-append, digits_value-cut}

scaled : (a b c u : ℕ) → (a * c + b) * u ≡ a * (c * u) + b * u
scaled a b c u = omega arith

scaled_lt : (b c u : ℕ) → b < c → 0 < u → b * u < c * u
scaled_lt b c u l p = let m : (b + 1) * u ≤ c * u = mul-le-mul_right u (omega arith) in omega arith

-- a quotient and its remainder, with both sides scaled
scaled_div : (a b c u : ℕ) → b < c → 0 < u → ((a * c + b) * u) / (c * u) ≡ a
scaled_div a b c u l p = let m = scaled_lt b c u l p in rw (scaled a b c u) (digits_div a m)

scaled_mod : (a b c u : ℕ) → b < c → 0 < u → ((a * c + b) * u) % (c * u) ≡ b * u
scaled_mod a b c u l p = let m = scaled_lt b c u l p in rw (scaled a b c u) (digits_mod a m)

-- two runs cut at one place of both together
pub take_both : (k : ℕ) (xs ys : List ℕ) → take (min k (length xs)) xs ++ take (min (k - min k (length xs)) (length ys)) ys ≡ take (min k (length xs + length ys)) (xs ++ ys)
take_both k xs ys = elim (cases_lt k (length xs)) [
  | inl l ↦
      let a : min k (length xs) ≡ k = omega arith in
      let b : min (k - k) (length ys) ≡ 0 = omega arith in
      let c : min k (length xs + length ys) ≡ k = omega arith in
      let w : k ≤ length xs = omega arith in
      rw a (rw b (rw c (append-nil (take k xs) ∙ sym (take-append-le k xs ys w))))
  | inr l ↦
      let a : min k (length xs) ≡ length xs = omega arith in
      let c : min k (length xs + length ys) ≡ length xs + min (k - length xs) (length ys) = omega arith in
      let n : length xs ≤ length xs = omega arith in
      rw a (rw c (rw (take_all (length xs) xs n) (sym (take-append-add xs ys (min (k - length xs) (length ys))))))
]

pub drop_both : (k : ℕ) (xs ys : List ℕ) → drop (min k (length xs)) xs ++ drop (min (k - min k (length xs)) (length ys)) ys ≡ drop (min k (length xs + length ys)) (xs ++ ys)
drop_both k xs ys = elim (cases_lt k (length xs)) [
  | inl l ↦
      let a : min k (length xs) ≡ k = omega arith in
      let b : min (k - k) (length ys) ≡ 0 = omega arith in
      let c : min k (length xs + length ys) ≡ k = omega arith in
      let w : k ≤ length xs = omega arith in
      rw a (rw b (rw c (sym (drop-append-le k xs ys w))))
  | inr l ↦
      let a : min k (length xs) ≡ length xs = omega arith in
      let c : min k (length xs + length ys) ≡ length xs + min (k - length xs) (length ys) = omega arith in
      let n : length xs ≤ length xs = omega arith in
      rw a (rw c (rw (drop_all (length xs) xs n) (sym (drop-append-add xs ys (min (k - length xs) (length ys))))))
]

-- both runs are 0 alone where they are together
pub zero_both : (xs ys : List ℕ) → (not (eqb (digits_value xs) 0) || not (eqb (digits_value ys) 0)) ≡ not (eqb (digits_value (xs ++ ys)) 0)
zero_both xs ys =
    let q = one-le-pow (length ys) 10 (lit< tt) in
    rw (digits_value-append xs ys) (both (digits_value xs) (10 ^ length ys) (digits_value ys) q)
  where
    both : (a p b : ℕ) → 1 ≤ p → (not (eqb a 0) || not (eqb b 0)) ≡ not (eqb (a * p + b) 0)
    both a p b l = elim (cases_lt 0 a) [
      | inl h ↦ let m : 1 * 1 ≤ a * p = mul-le-mul h l in
          let e : eqb (a * p + b) 0 ≡ false = ne_eqb (a * p + b) 0 (λ z. omega arith) in
          let f : eqb a 0 ≡ false = ne_eqb a 0 (λ z. omega arith) in
          rw e (rw f refl)
      | inr h ↦ let z : a ≡ 0 = omega arith in let e : 0 * p + b ≡ b = omega arith in rw z (rw e refl)
    ]

-- capped counts
pub capped_on : (n m : ℕ) (ds : List ℕ) → min (counted_on (min n m) ds) m ≡ min (counted_on n ds) m
capped_on n m ds =
    let a = counted_on-split n ds in
    let b = counted_on-split (min n m) ds in
    let q = one-le-pow (length ds) 10 (lit< tt) in
    rw a (rw b (capped n m (10 ^ length ds) (digits_value ds) q))
  where
    capped : (n m p v : ℕ) → 1 ≤ p → min (min n m * p + v) m ≡ min (n * p + v) m
    capped n m p v l = elim (cases_lt n m) [
      | inl h ↦ let e : min n m ≡ n = omega arith in rw e refl
      | inr h ↦ let e : min n m ≡ m = omega arith in
          let a : m * 1 ≤ m * p = mul-le-mul_left m l in
          let b : m * p ≤ n * p = mul-le-mul_right p h in
          rw e (omega arith)
    ]

pub capped_times : (n m p : ℕ) → 1 ≤ p → min (min n m * p) m ≡ min (n * p) m
capped_times n m p l = elim (cases_lt n m) [
  | inl h ↦ let e : min n m ≡ n = omega arith in rw e refl
  | inr h ↦ let e : min n m ≡ m = omega arith in
      let a : m * 1 ≤ m * p = mul-le-mul_left m l in
      let b : m * p ≤ n * p = mul-le-mul_right p h in
      rw e (omega arith)
]

-- how many digits of the whole number of digits are kept: k with k + t = u + length, or none where t is larger still
abbrev pub IsPlace : ℕ → ℕ → ℕ → ℕ → Type 0
IsPlace k u t n = (k + t ≡ u + n) ⊎ ((k ≡ 0) × (u + n ≤ t))

-- the digits before the place count the quotient, and those behind it are its remainder
abbrev Kept : List ℕ → ℕ → ℕ → ℕ → Type 0
Kept ds k u t =
    ((digits_value ds * 10 ^ u) / 10 ^ t ≡ digits_value (take (min k (length ds)) ds) * 10 ^ (k - length ds))
    × (eqb ((digits_value ds * 10 ^ u) % 10 ^ t) 0 ≡ eqb (digits_value (drop (min k (length ds)) ds)) 0)

pub power_positive : (n : ℕ) → 0 < 10 ^ n
power_positive n = one-le-pow n 10 (lit< tt)

kept_all : (ds : List ℕ) (k u t : ℕ) → length ds ≤ k → k + t ≡ u + length ds → Kept ds k u t
kept_all ds k u t l e =
    let z = k - length ds in
    let a : min k (length ds) ≡ length ds = omega arith in
    let n : length ds ≤ length ds = omega arith in
    let f : u ≡ z + t = omega arith in
    let p : digits_value ds * 10 ^ u ≡ digits_value ds * 10 ^ z * 10 ^ t + 0 = rw f (rw (pow-add 10 z t) (omega arith)) in (
      rw a (rw (take_all (length ds) ds n) (rw p (digits_div (digits_value ds * 10 ^ z) (power_positive t)))),
      rw a (rw (drop_all (length ds) ds n) (rw p (rw (digits_mod (digits_value ds * 10 ^ z) (power_positive t)) refl))),
    )

scaled_zero : (b u : ℕ) → 0 < u → eqb (b * u) 0 ≡ eqb b 0
scaled_zero b u l = elim (cases_lt 0 b) [
  | inl h ↦ let m : 1 * 1 ≤ b * u = mul-le-mul h l in
      rw (ne_eqb (b * u) 0 (λ z. omega arith)) (rw (ne_eqb b 0 (λ z. omega arith)) refl)
  | inr h ↦ let z : b ≡ 0 = omega arith in let y : 0 * u ≡ 0 = omega arith in rw z (rw y refl)
]

split_kept : (m a b s u t : ℕ) → m ≡ a * 10 ^ s + b → b < 10 ^ s → t ≡ s + u → ((m * 10 ^ u) / 10 ^ t ≡ a) × (eqb ((m * 10 ^ u) % 10 ^ t) 0 ≡ eqb b 0)
split_kept m a b s u t e l f =
    rw f (rw (pow-add 10 s u) (rw e (scaled_div a b (10 ^ s) (10 ^ u) l (power_positive u), rw (scaled_mod a b (10 ^ s) (10 ^ u) l (power_positive u)) (scaled_zero b (10 ^ u) (power_positive u)))))

kept_some : (ds : List ℕ) (k u t : ℕ) → AreDigits ds → k < length ds → k + t ≡ u + length ds → Kept ds k u t
kept_some ds k u t h l e =
    let s = length ds - k in
    let a : min k (length ds) ≡ k = omega arith in
    let z : k - length ds ≡ 0 = omega arith in
    let one : digits_value (take k ds) * 10 ^ 0 ≡ digits_value (take k ds) = omega arith in
    let c = digits_value-cut k ds in
    let f : t ≡ s + u = omega arith in
    let b = digits_value-below (drop k ds) (λ i w. let v : i < length ds - k = simp length-drop at w in rw get_or-drop (h (k + i) (omega arith))) in
    let n : length (drop k ds) ≡ s = length-drop k ds in
    let d : digits_value (drop k ds) < 10 ^ s = rw n at b in
    let r = split_kept (digits_value ds) (digits_value (take k ds)) (digits_value (drop k ds)) s u t c d f in
    rw a (rw z (rw one r))

kept_none : (ds : List ℕ) (k u t : ℕ) → AreDigits ds → k ≡ 0 → u + length ds ≤ t → Kept ds k u t
kept_none ds k u t h e l =
    let s = t - u in
    let a : min 0 (length ds) ≡ 0 = omega arith in
    let z : 0 - length ds ≡ 0 = omega arith in
    let f : t ≡ s + u = omega arith in
    let b = digits_value-below ds h in
    let g : 10 ^ length ds ≤ 10 ^ s = pow-le-pow_right (lit< tt) (omega arith) in
    let c : digits_value ds ≡ 0 * 10 ^ s + digits_value ds = omega arith in
    let r = split_kept (digits_value ds) 0 (digits_value ds) s u t c (omega arith) f in
    rw e (rw a (rw z r))

pub kept : (ds : List ℕ) (k u t : ℕ) → AreDigits ds → IsPlace k u t (length ds) → Kept ds k u t
kept ds k u t h (inl e) = elim (cases_lt k (length ds)) [ inl l ↦ kept_some ds k u t h l e | inr l ↦ kept_all ds k u t l e ]
kept ds k u t h (inr e) = kept_none ds k u t h e.0 e.1

-- past every range more zeros change nothing
far : (m z : ℕ) → 28 ≤ z → min (m * 10 ^ z) (10 ^ 28) ≡ min (m * 10 ^ 28) (10 ^ 28)
far m z l =
    let p : 10 ^ 28 ≤ 10 ^ z = pow-le-pow_right (lit< tt) l in
    elim (cases_lt 0 m) [
      | inl h ↦ let a : 1 * 10 ^ 28 ≤ m * 10 ^ z = mul-le-mul h p in omega arith
      | inr h ↦ let e : m ≡ 0 = omega arith in let y : 0 * 10 ^ z ≡ 0 = omega arith in rw e (rw y refl)
    ]

-- what a place keeps, up to the end of all ranges
abbrev pub kept_count : List ℕ → ℕ → ℕ
kept_count ds k = min (digits_value (take (min k (length ds)) ds) * 10 ^ (k - length ds)) (10 ^ 28)

far_count : (ds : List ℕ) (k : ℕ) → length ds + 28 ≤ k → kept_count ds k ≡ min (digits_value ds * 10 ^ 28) (10 ^ 28)
far_count ds k l =
    let a : min k (length ds) ≡ length ds = omega arith in
    let n : length ds ≤ length ds = omega arith in
    rw a (rw (take_all (length ds) ds n) (far (digits_value ds) (k - length ds) (omega arith)))

is_place : (b : Bool) (i f e k : ℕ) → k ≡ cond b ((i + 10) - e) (i + 10 + e) → IsPlace k (10 + cond b 0 e) (f + cond b e 0) (i + f)
is_place true i f e k h = elim (cases_lt e (i + 10)) [ inl l ↦ inl (omega arith) | inr l ↦ inr (omega arith, omega arith) ]
is_place false i f e k h = inl (omega arith)

near_or_far : (b : Bool) (i f e k : ℕ) → i + f ≤ 64 → k ≡ cond b ((i + 10) - min e 1000) (i + 10 + min e 1000) →
    let k' = cond b ((i + 10) - e) (i + 10 + e) in (k ≡ k') ⊎ ((i + f + 28 ≤ k) × (i + f + 28 ≤ k'))
near_or_far true i f e k w h = inl (omega arith)
near_or_far false i f e k w h = elim (cases_lt e 1000) [ inl l ↦ inl (omega arith) | inr l ↦ inr (omega arith, omega arith) ]

one_more_ten : (m n : ℕ) → 10 * (m * 10 ^ (9 + n)) ≡ m * 10 ^ (10 + n)
one_more_ten m n = let e : 10 + n ≡ suc (9 + n) = omega arith in rw e (rw (pow-suc 10 (9 + n)) (omega arith))

same_count : (ds : List ℕ) (k k' : ℕ) → (k ≡ k') ⊎ ((length ds + 28 ≤ k) × (length ds + 28 ≤ k')) → kept_count ds k ≡ kept_count ds k'
same_count ds k k' (inl e) = ap (kept_count ds) e
same_count ds k k' (inr e) = far_count ds k e.0 ∙ sym (far_count ds k' e.1)

same_cut : (n k k' : ℕ) → (k ≡ k') ⊎ ((n + 28 ≤ k) × (n + 28 ≤ k')) → min k n ≡ min k' n
same_cut n k k' (inl e) = ap (λ x. min x n) e
same_cut n k k' (inr e) = omega arith

pub AreDigits-append : (xs ys : List ℕ) → AreDigits xs → AreDigits ys → AreDigits (xs ++ ys)
AreDigits-append [] ys a b k l = b k l
AreDigits-append (x ∷ xs) ys a b zero l = a zero (omega arith)
AreDigits-append (x ∷ xs) ys a b (suc k) l = AreDigits-append xs ys (λ i m. a (suc i) (omega arith)) b k (omega arith)

module _ (p : Parts) (i : AreDigits p.int) (f : AreDigits p.frac) (w : length p.int + length p.frac ≤ 64) (k : ℕ) (h : k ≡ place p (min (digits_value p.exponent) 1000)) where
  kept_digits : Kept (p.int ++ p.frac) (place p (digits_value p.exponent)) (10 + (if p.exponent_is_negative then 0 else digits_value p.exponent)) (length p.frac + (if p.exponent_is_negative then digits_value p.exponent else 0))
  kept_digits = kept (p.int ++ p.frac) _ _ _ (AreDigits-append p.int p.frac i f) (rw (length-append p.int p.frac) (is_place p.exponent_is_negative (length p.int) (length p.frac) (digits_value p.exponent) _ refl))

  same_place : (k ≡ place p (digits_value p.exponent)) ⊎ ((length (p.int ++ p.frac) + 28 ≤ k) × (length (p.int ++ p.frac) + 28 ≤ place p (digits_value p.exponent)))
  same_place = rw (length-append p.int p.frac) (near_or_far p.exponent_is_negative (length p.int) (length p.frac) (digits_value p.exponent) k w h)

  scaled_numerator : 10 * numerator p ≡ digits_value (p.int ++ p.frac) * 10 ^ (10 + (if p.exponent_is_negative then 0 else digits_value p.exponent))
  scaled_numerator = one_more_ten (digits_value (p.int ++ p.frac)) (if p.exponent_is_negative then 0 else digits_value p.exponent)

  -- the count of tenths
  pub tenths_count : kept_count (p.int ++ p.frac) k ≡ min ((10 * numerator p) / denominator p) (10 ^ 28)
  tenths_count =
      same_count (p.int ++ p.frac) k (place p (digits_value p.exponent)) same_place
      ∙ (ap (λ x. min x (10 ^ 28)) (sym (kept_digits.0)) ∙ ap (λ x. min (x / denominator p) (10 ^ 28)) (sym scaled_numerator))

  -- and whether anything is behind it
  pub tenths_cut : not (eqb (digits_value (drop (min k (length (p.int ++ p.frac))) (p.int ++ p.frac))) 0) ≡ not (eqb ((10 * numerator p) % denominator p) 0)
  tenths_cut =
      ap (λ n. not (eqb (digits_value (drop n (p.int ++ p.frac))) 0)) (same_cut (length (p.int ++ p.frac)) k (place p (digits_value p.exponent)) same_place)
      ∙ (ap not (sym (kept_digits.1)) ∙ ap (λ x. not (eqb (x % denominator p) 0)) (sym scaled_numerator))

  -- as the program comes to them: the digits of int and of frac that are kept, and those that are cut off
  module _ (int frac cut_int cut_frac : List ℕ) (e1 : int ≡ take (min k (length p.int)) p.int) (e2 : frac ≡ take (min (k - length int) (length p.frac)) p.frac) (l1 : length int ≡ min k (length p.int)) (l2 : length frac ≡ min (k - length int) (length p.frac)) (e3 : cut_int ≡ drop (min k (length p.int)) p.int) (e4 : cut_frac ≡ drop (min (k - length int) (length p.frac)) p.frac) where
    kept_runs : int ++ frac ≡ take (min k (length (p.int ++ p.frac))) (p.int ++ p.frac)
    kept_runs = rw e2 (rw l1 (rw e1 (rw (length-append p.int p.frac) (take_both k p.int p.frac))))

    cut_runs : cut_int ++ cut_frac ≡ drop (min k (length (p.int ++ p.frac))) (p.int ++ p.frac)
    cut_runs = rw e4 (rw l1 (rw e3 (rw (length-append p.int p.frac) (drop_both k p.int p.frac))))

    count_of_runs : (a b r : ℕ) → a ≡ min (counted_on 0 int) (10 ^ 28) → b ≡ min (counted_on a frac) (10 ^ 28) → r ≡ min (b * 10 ^ ((k - length int) - length frac)) (10 ^ 28) → r ≡ min ((10 * numerator p) / denominator p) (10 ^ 28)
    count_of_runs a b r ea eb er =
        let n = length-append p.int p.frac in
        let z : (k - length int) - length frac ≡ k - length (p.int ++ p.frac) = rw n (omega arith) in
        let t : b ≡ min (digits_value (int ++ frac)) (10 ^ 28) =
        eb ∙ (ap (λ x. min (counted_on x frac) (10 ^ 28)) ea ∙ (capped_on (counted_on 0 int) (10 ^ 28) frac ∙ ap (λ x. min x (10 ^ 28)) (sym (fold-append (λ n b. 10 * n + (b - 48)) 0 int frac)))) in
        er ∙ (ap (λ x. min (x * 10 ^ ((k - length int) - length frac)) (10 ^ 28)) t
        ∙ (capped_times (digits_value (int ++ frac)) (10 ^ 28) (10 ^ ((k - length int) - length frac)) (power_positive ((k - length int) - length frac))
        ∙ (rw z (rw kept_runs tenths_count))))

    cut_of_runs : (not (eqb (digits_value cut_int) 0) || not (eqb (digits_value cut_frac) 0)) ≡ not (eqb ((10 * numerator p) % denominator p) 0)
    cut_of_runs = zero_both cut_int cut_frac ∙ rw cut_runs tenths_cut

    pub tenths_of_runs : (a b r : ℕ) → a ≡ min (counted_on 0 int) (10 ^ 28) → b ≡ min (counted_on a frac) (10 ^ 28) → r ≡ min (b * 10 ^ ((k - length int) - length frac)) (10 ^ 28) → (c : Bool) → c ≡ (not (eqb (digits_value cut_int) 0) || not (eqb (digits_value cut_frac) 0)) → AreTenths r c (numerator p) (denominator p)
    tenths_of_runs a b r ea eb er c ec = record {
      divides = power_positive _;
      count = count_of_runs a b r ea eb er;
      cut = ec ∙ cut_of_runs;
    }
