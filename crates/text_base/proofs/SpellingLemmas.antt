-- A short whole number: an optional minus sign and 1 to 18 digits. Its value is what the digits count.
use Rattle.std.proofs.Common.{◌≡◌, ◌≤◌, ◌<◌, ◌+◌, ◌-◌, ◌*◌, ◌^◌, ℕ, List, [], ◌∷◌, length, drop, Bool, true, false, cond, eqb, get_or, Some, refl, sym, ◌∙◌, arith, ◌||◌, not, lit<, get_or-drop, length-drop, ◌&&◌, ◌==◌, suc}
use Rattle.std.proofs.Math.Nat.{pow-suc, mul-le-mul_right, pow-le-pow_right}
use Rattle.std.proofs.lemmas.Bool.{le-leb}
use Rattle.std.specs.Prelude.{fold}
use Rattle.std.proofs.lemmas.List.{take_all}
use Rattle.std.proofs.lemmas.List.Sums.{position_or_len_is}
use Rattle.std.proofs.lemmas.Bool.Decides.{nat_tests}
use Rattle.text_base.specs.Number.{whole}
use Rattle.text_base.specs.Spelling.{is_digit, digits_length, minus_length, int_length, frac_length, exp_length, unsigned_length, number_length}
use Rattle.text_base.proofs.FrontLemmas.{minus_length-within, minus_length-le}
use Rattle.text_base.specs.Value.{digits_value, Parts, parts, signed, fits_64, whole_value, exact_value, number_value}

-- every byte is a digit
abbrev pub AreDigits : List ℕ → Type 0
AreDigits bs = (k : ℕ) → k < length bs → is_digit (get_or bs k 0) ≡ true

pub digit_from : (b : ℕ) → is_digit b ≡ true → 48 ≤ b
digit_from b h = grind (arith, nat_tests)

pub digit_to : (b : ℕ) → is_digit b ≡ true → b ≤ 57
digit_to b h = grind (arith, nat_tests)

pub not_digit : (b c : ℕ) → is_digit b ≡ true → c < 48 → eqb b c ≡ false
not_digit b c h l = grind (arith, nat_tests)

pub frac_length-digits : (bs : List ℕ) → AreDigits bs → frac_length bs ≡ 0
frac_length-digits [] h = refl
frac_length-digits (x ∷ xs) h =
    let d = h 0 (omega arith) in
    let e : eqb x 46 ≡ false = not_digit x 46 d (lit< tt) in rw e refl

not_mark : (b : ℕ) → is_digit b ≡ true → (eqb b 101 || eqb b 69) ≡ false
not_mark b h = grind (arith, nat_tests)

pub exp_length-digits : (bs : List ℕ) → AreDigits bs → exp_length bs ≡ 0
exp_length-digits [] h = refl
exp_length-digits (x ∷ xs) h =
    let d = h 0 (omega arith) in
    let e : (eqb x 101 || eqb x 69) ≡ false = not_mark x d in rw e refl

-- the digits of a run of digits are all of it
pub digits_length-digits : (bs : List ℕ) → AreDigits bs → digits_length bs ≡ length bs
unfolding digits_length
digits_length-digits bs h =
    let n : length bs ≤ length bs = omega arith in
    position_or_len_is (λ b. not (is_digit b)) bs (length bs) 0 n (λ k l. rw (h k l) refl) (λ l. absurd (omega arith))

AreDigits-drop : (n : ℕ) (bs : List ℕ) → AreDigits bs → AreDigits (drop n bs)
AreDigits-drop n bs h k l =
    let m : k < length bs - n = simp length-drop at l in
    rw get_or-drop (h (n + k) (omega arith))

alone : (i f e : ℕ) → f ≡ 0 → e ≡ 0 → cond (eqb i 0) 0 (i + f + e) ≡ i
alone i f e p q = grind (arith, nat_tests)

-- digits have no other part than int
pub unsigned_length-digits : (bs : List ℕ) → AreDigits bs → unsigned_length bs ≡ int_length bs
unfolding unsigned_length
unsigned_length-digits bs h =
    let f = frac_length (drop (int_length bs) bs) in
    alone (int_length bs) f (exp_length (drop (int_length bs + f) bs))
    (frac_length-digits (drop (int_length bs) bs) (AreDigits-drop (int_length bs) bs h))
    (exp_length-digits (drop (int_length bs + f) bs) (AreDigits-drop (int_length bs + f) bs h))

minus_length-digits : (bs : List ℕ) → AreDigits bs → minus_length bs ≡ 0
minus_length-digits [] h = refl
minus_length-digits (x ∷ xs) h =
    let d = h 0 (omega arith) in
    let e : eqb x 45 ≡ false = not_digit x 45 d (lit< tt) in rw e refl

grown : (n d x t p : ℕ) → 48 ≤ d → d ≤ 57 → x < (10 * n + (d - 48) + 1) * p → t ≡ p * 10 → x < (n + 1) * t
grown n d x t p a b l e =
    let m : (10 * n + (d - 48) + 1) * p ≤ (10 * n + 10) * p = mul-le-mul_right p (omega arith) in
    rw e (omega arith)

counted_below : (n : ℕ) (bs : List ℕ) → AreDigits bs → fold (λ m b. 10 * m + (b - 48)) n bs < (n + 1) * 10 ^ length bs
counted_below n [] h = omega arith
counted_below n (x ∷ xs) h =
    let d = h 0 (omega arith) in
    grown n x _ _ _ (digit_from x d) (digit_to x d) (counted_below (10 * n + (x - 48)) xs (λ k l. h (suc k) (omega arith))) (pow-suc 10 (length xs))

-- what digits count has no more digits
pub digits_value-below : (bs : List ℕ) → AreDigits bs → digits_value bs < 10 ^ length bs
digits_value-below bs h = let l = counted_below 0 bs h in omega arith

eighteen : (n : Bool) (v k : ℕ) → v < 10 ^ k → k ≤ 18 → fits_64 n v ≡ true
eighteen n v k l m =
    let p : 10 ^ k ≤ 10 ^ 18 = pow-le-pow_right (lit< tt) m in
    elim n as (λ n. fits_64 n v ≡ true) [ true ↦ le-leb _ _ (omega arith) | false ↦ le-leb _ _ (omega arith) ]

whole_alone : (i : ℕ) (ds : List ℕ) → i ≡ length ds → AreDigits ds → (eqb (frac_length (drop i ds)) 0 && eqb (length (drop (frac_length (drop i ds)) (drop i ds))) 0) ≡ true
whole_alone i ds e h =
    let n : length (drop i ds) ≡ 0 = simp length-drop (omega arith) in
    rw (frac_length-digits (drop i ds) (AreDigits-drop i ds h)) (rw n refl)

whole_from : (p : Parts) (ds : List ℕ) → p.int ≡ ds → fits_64 p.is_negative (digits_value ds) ≡ true → whole_value p ≡ Some (whole (signed p.is_negative (digits_value ds)))
whole_from p ds e f = rw e (rw f refl)

behind_minus : (m u n w : ℕ) → n ≡ w - m → m ≤ w → cond (eqb u 0) 0 (m + u) ≡ w → u ≡ n
behind_minus m u n w a b e = grind (arith, nat_tests)

int_is_all : (s : List ℕ) → number_length s ≡ length s → AreDigits (drop (minus_length s) s) → int_length (drop (minus_length s) s) ≡ length (drop (minus_length s) s)
unfolding number_length
int_is_all s e h =
    sym (unsigned_length-digits (drop (minus_length s) s) h) ∙
    behind_minus (minus_length s) (unsigned_length (drop (minus_length s) s)) (length (drop (minus_length s) s)) (length s) (length-drop (minus_length s) s) (minus_length-within s) e

parts_are_whole : (s : List ℕ) → int_length (drop (minus_length s) s) ≡ length (drop (minus_length s) s) → AreDigits (drop (minus_length s) s) → (parts s).is_whole ≡ true
unfolding parts
parts_are_whole s e h = whole_alone (int_length (drop (minus_length s) s)) (drop (minus_length s) s) e h

parts_int : (s : List ℕ) → int_length (drop (minus_length s) s) ≡ length (drop (minus_length s) s) → (parts s).int ≡ drop (minus_length s) s
unfolding parts
parts_int s e = let n : length (drop (minus_length s) s) ≤ int_length (drop (minus_length s) s) = omega arith in take_all (int_length (drop (minus_length s) s)) (drop (minus_length s) s) n

parts_is_negative : (s : List ℕ) → (parts s).is_negative ≡ (minus_length s == 1)
unfolding parts
parts_is_negative s = refl

pub exact_whole : (s : List ℕ) (n : Bool) (ds : List ℕ) → (parts s).is_whole ≡ true → (parts s).is_negative ≡ n → (parts s).int ≡ ds → fits_64 n (digits_value ds) ≡ true → exact_value s ≡ Some (whole (signed n (digits_value ds)))
unfolding exact_value
exact_whole s n ds w e f t = rw w (rw e (rw f (rw t refl)))

pub number_exact : (s : List ℕ) → length s ≤ 64 → number_value s ≡ exact_value s
unfolding number_value
number_exact s l = rw (le-leb (length s) 64 l) refl

-- the value of an optional minus sign and at most 18 digits that are one number
pub short_number_value : (spelling : List ℕ) → number_length spelling ≡ length spelling → AreDigits (drop (minus_length spelling) spelling) → length (drop (minus_length spelling) spelling) ≤ 18 → number_value spelling ≡ Some (whole (signed (minus_length spelling == 1) (digits_value (drop (minus_length spelling) spelling))))
short_number_value s e h l =
    let i = int_is_all s e h in
    let b = minus_length-within s in
    let one : minus_length s ≤ 1 = minus_length-le s in
    let n : length (drop (minus_length s) s) ≡ length s - minus_length s = length-drop (minus_length s) s in
    number_exact s (omega arith) ∙
    exact_whole s (minus_length s == 1) (drop (minus_length s) s) (parts_are_whole s i h) (parts_is_negative s) (parts_int s i)
    (eighteen (minus_length s == 1) (digits_value (drop (minus_length s) s)) (length (drop (minus_length s) s)) (digits_value-below (drop (minus_length s) s) h) l)

-- the same for digits alone, and for digits behind a minus sign
pub short_digits_value : (digits : List ℕ) → number_length digits ≡ length digits → AreDigits digits → length digits ≤ 18 → number_value digits ≡ Some (whole (signed false (digits_value digits)))
short_digits_value ds e h l =
    let z = minus_length-digits ds h in
    simp z at (short_number_value ds e (rw z h) (rw z l))

pub short_minus_value : (digits : List ℕ) → number_length (45 ∷ digits) ≡ length (45 ∷ digits) → AreDigits digits → length digits ≤ 18 → number_value (45 ∷ digits) ≡ Some (whole (signed true (digits_value digits)))
short_minus_value ds e h l = short_number_value (45 ∷ ds) e h l
