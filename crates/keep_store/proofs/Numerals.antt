-- The numbers in promises' names: each has one spelling.
use Rattle.std.proofs.Common.{◌≡◌, ◌⊎◌, inl, inr, ℕ, suc, ◌+◌, ◌*◌, ◌-◌, ◌^◌, ◌<◌, ◌≤◌, List, [], ◌∷◌, length, get_or, fold, drop, drop-cons, refl, ◌∙◌, ap, arith, length-append}
use Rattle.std.proofs.lemmas.Bool.{cases_lt}
use Rattle.std.specs.Fmt.{decimal}
use Rattle.std.specs.Int.{IsInRange}
use Rattle.std.proofs.lemmas.Str.Parse.{IsNumeralModel, numerals_by_fold, tells_by_index}
use Rattle.std.proofs.lemmas.Fmt.{decimal-digits_value, digits_decimal, digits_value-decimal, decimal_nonempty, first_decimal, decimal_digit}
use Rattle.std.proofs.lemmas.List.{append_cancel_left}
use Rattle.folder_base.specs.Disk.{Name}
use Rattle.keep_store.specs.Promise.{IsNumber, number_of, promise_prefix, promising, promise_name, IsPromising}

abbrev IsDigits : List ℕ → Type 0
IsDigits digits = (k : ℕ) → k < length digits → IsInRange 48 57 (get_or digits k 0)

abbrev pub step : ℕ → ℕ → ℕ
step n digit = 10 * n + (digit - 48)

own : IsNumeralModel IsDigits number_of
own = numerals_by_fold IsDigits tells_by_index (λ (n : ℕ) (ds : List ℕ). fold step n ds)
    (record { empty = λ n. refl; more = λ n c cs r. ap (λ (k : ℕ). fold step k cs) (omega arith) })

-- one digit read, and the others to come
pub step_on : (digits : List ℕ) (i n : ℕ) → i < length digits → fold step n (drop i digits) ≡ fold step (step n (get_or digits i 0)) (drop (i + 1) digits)
step_on digits i n below = ap (λ (ds : List ℕ). fold step n ds) (drop-cons digits i 0 below) ∙ rest
  where
    rest : fold step (step n (get_or digits i 0)) (drop (suc i) digits) ≡ fold step (step n (get_or digits i 0)) (drop (i + 1) digits)
    rest = let same : suc i ≡ i + 1 = omega arith in ap (λ (k : ℕ). fold step (step n (get_or digits i 0)) (drop k digits)) same

-- More digits make no smaller number.
pub number_grows : (digits : List ℕ) (n : ℕ) → n ≤ fold step n digits
number_grows [] n = omega arith
number_grows (c ∷ digits) n = omega (arith, number_grows digits (step n c))

-- The number is no smaller than what is read of it.
pub read_so_far : (digits : List ℕ) (i n : ℕ) → i < length digits → fold step n (drop i digits) ≡ number_of digits → step n (get_or digits i 0) ≤ number_of digits
read_so_far digits i n below is = omega (arith, is, step_on digits i n below, number_grows (drop (i + 1) digits) (step n (get_or digits i 0)))

-- Digits without zeros before them are what is printed of their number.
pub printed : (digits : List ℕ) → IsNumber digits → number_of digits < 2 ^ 64 → decimal (number_of digits) ≡ digits
printed digits is small = decimal-digits_value own digits is.each is.some is.lead small

-- the digits behind the first one
digits_behind : (c : ℕ) (digits : List ℕ) → IsDigits (c ∷ digits) → IsDigits digits
digits_behind c digits each k below = each (suc k) (omega arith)

-- A greater number with no fewer digits behind it is greater.
grows_more : (a b : List ℕ) (n m : ℕ) → IsDigits a → length a ≤ length b → n < m → fold step n a < fold step m b
grows_more [] b n m each fewer less = omega (arith, less, number_grows b m)
grows_more (c ∷ a) [] n m each fewer less = absurd (omega arith)
grows_more (c ∷ a) (d ∷ b) n m each fewer less =
    let first = each 0 (omega arith) in grows_more a b (step n c) (step m d) (digits_behind c a each) (omega arith) (omega (arith, first.0, first.1))

-- As many digits that spell one number are the same.
same_run : (a b : List ℕ) (n m : ℕ) → IsDigits a → IsDigits b → length a ≡ length b → fold step n a ≡ fold step m b → (n ≡ m) × (a ≡ b)
same_run [] [] n m one two long same = (same, refl)
same_run [] (d ∷ b) n m one two long same = absurd (omega arith)
same_run (c ∷ a) [] n m one two long same = absurd (omega arith)
same_run (c ∷ a) (d ∷ b) n m one two long same =
    let rest = same_run a b (step n c) (step m d) (digits_behind c a one) (digits_behind d b two) (omega arith) same in
    let first = one 0 (omega arith) in
    let other = two 0 (omega arith) in
    let digit : c ≡ d = omega (arith, rest.0, first.0, first.1, other.0, other.1) in (omega (arith, rest.0, first.0, first.1, other.0, other.1), λ i. digit i ∷ rest.1 i)

-- Fewer digits without zeros before them spell a smaller number.
fewer_less : (a b : List ℕ) → IsNumber a → IsNumber b → length a < length b → number_of a < number_of b
fewer_less a [] is also fewer = absurd (omega arith)
fewer_less a (d ∷ b) is also fewer = grows_more a b 0 (step 0 d) is.each (omega arith) (above (cases_lt 48 d))
  where
    above : (48 < d) ⊎ (d ≤ 48) → 0 < step 0 d
    above (inl more) = omega arith
    above (inr most) =
        let least = (also.each 0 (omega arith)).0 in
        let one : length (d ∷ b) ≡ 1 = also.lead (omega (arith, least, most)) in absurd (omega (arith, one, fewer, is.some))

-- A number has one spelling without zeros before it.
pub same_digits : (a b : List ℕ) → IsNumber a → IsNumber b → number_of a ≡ number_of b → a ≡ b
same_digits a b is also same = by (cases_lt (length a) (length b)) (cases_lt (length b) (length a))
  where
    by : (length a < length b) ⊎ (length b ≤ length a) → (length b < length a) ⊎ (length a ≤ length b) → a ≡ b
    by (inl fewer) other = absurd (omega (arith, same, fewer_less a b is also fewer))
    by (inr most) (inl fewer) = absurd (omega (arith, same, fewer_less b a also is fewer))
    by (inr most) (inr least) = (same_run a b 0 0 is.each also.each (omega (arith, most, least)) same).1

pub decimal_is_number : (n : ℕ) → n < 2 ^ 64 → IsNumber (decimal n)
decimal_is_number n small = record { some = decimal_nonempty n small; each = digits_decimal own n small; lead = by (cases_lt 0 n) }
  where
    by : (0 < n) ⊎ (n ≤ 0) → get_or (decimal n) 0 0 ≡ 48 → length (decimal n) ≡ 1
    by (inl some) is = absurd (let l = first_decimal n some small in omega (arith, l, is))
    by (inr none) is = let z : n ≡ 0 = omega arith in ap (λ (m : ℕ). length (decimal m)) z ∙ ap length (decimal_digit 0 (omega arith))

pub number_of-decimal : (n : ℕ) → n < 2 ^ 64 → number_of (decimal n) ≡ n
number_of-decimal n small = digits_value-decimal own n small

pub name_is_promising : (stem : Name) (n : ℕ) → n < 2 ^ 64 → IsPromising stem (promise_name stem n)
name_is_promising stem n small = record { digits = decimal n; number = decimal_is_number n small; is = refl }

pub same_promising : (stem : Name) (a b : List ℕ) → promising stem a ≡ promising stem b → a ≡ b
same_promising stem a b same = append_cancel_left (promise_prefix stem) a b same

-- No promise's name is the complete one.
pub not_whole : (stem : Name) (digits : List ℕ) → promising stem digits ≡ stem → ⊥
not_whole stem digits same =
    let one : length (promising stem digits) ≡ length stem = ap length same in
    omega (arith, one, length-append (promise_prefix stem) digits, length-append stem (46 ∷ 64 ∷ []))
