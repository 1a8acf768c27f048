-- What digits count: of two runs together, of a run cut in two, and of a run with other digits than 0.
use Rattle.std.proofs.Common.{◌≡◌, ◌≤◌, ◌<◌, ◌+◌, ◌-◌, ◌*◌, ◌^◌, ℕ, List, [], ◌∷◌, ◌++◌, length, take, drop, true, false, eqb, get_or, refl, sym, ap, ◌∙◌, arith, not, length-drop, suc, lit<}
use Rattle.std.proofs.Math.Nat.{pow-suc, one-le-pow, mul-le-mul}
use Rattle.std.proofs.lemmas.List.{take-append-drop, take_more}
use Rattle.std.proofs.lemmas.List.Sums.{fold-append}
use Rattle.std.proofs.lemmas.Bool.Decides.{nat_tests}
use Rattle.std.proofs.lemmas.Bool.{ne_eqb}
use Rattle.text_base.specs.Spelling.{is_digit}
use Rattle.text_base.specs.Value.{digits_value}
use Rattle.text_base.specs.Spelled.{AreDigits, counted_on}

one_more : (n x p t v : ℕ) → t ≡ p * 10 → (10 * n + x) * p + v ≡ n * t + (x * p + v)
one_more n x p t v e = rw e (omega arith)

-- a count of digits behind a count
pub counted_on-split : (n : ℕ) (ds : List ℕ) → counted_on n ds ≡ n * 10 ^ length ds + digits_value ds
counted_on-split n [] = omega arith
counted_on-split n (x ∷ xs) =
    let a = counted_on-split (10 * n + (x - 48)) xs in
    let b = counted_on-split (10 * 0 + (x - 48)) xs in
    let z : 10 * 0 + (x - 48) ≡ x - 48 = omega arith in
    let c : counted_on (10 * 0 + (x - 48)) xs ≡ (x - 48) * 10 ^ length xs + digits_value xs = b ∙ ap (λ y. y * 10 ^ length xs + digits_value xs) z in
    a ∙ (one_more n (x - 48) (10 ^ length xs) (10 ^ suc (length xs)) (digits_value xs) (pow-suc 10 (length xs)) ∙ ap (λ y. n * 10 ^ suc (length xs) + y) (sym c))

pub digits_value-append : (xs ys : List ℕ) → digits_value (xs ++ ys) ≡ digits_value xs * 10 ^ length ys + digits_value ys
digits_value-append xs ys = fold-append (λ n b. 10 * n + (b - 48)) 0 xs ys ∙ counted_on-split (digits_value xs) ys

-- digits cut in two
pub digits_value-cut : (k : ℕ) (ds : List ℕ) → digits_value ds ≡ digits_value (take k ds) * 10 ^ (length ds - k) + digits_value (drop k ds)
digits_value-cut k ds =
    ap digits_value (sym (take-append-drop k ds)) ∙ (digits_value-append (take k ds) (drop k ds) ∙ rw (length-drop k ds) refl)

positive : (x : ℕ) → is_digit x ≡ true → eqb x 48 ≡ false → 0 < x - 48
positive x h e = grind (arith, nat_tests)

-- a digit that is not 0 counts
pub has_nonzero_at : (ds : List ℕ) (i : ℕ) → AreDigits ds → i < length ds → eqb (get_or ds i 0) 48 ≡ false → true ≡ not (eqb (digits_value ds) 0)
has_nonzero_at ds i h l e =
    let x = get_or ds i 0 in
    let p = positive x (h i l) e in
    let t : digits_value (take (i + 1) ds) ≡ digits_value (take i ds) * 10 ^ 1 + (10 * 0 + (x - 48)) = ap digits_value (take_more ds i 0 l) ∙ digits_value-append (take i ds) (x ∷ []) in
    let c = digits_value-cut (i + 1) ds in
    let q : 1 ≤ 10 ^ (length ds - (i + 1)) = one-le-pow (length ds - (i + 1)) 10 (lit< tt) in
    let o : 1 ≤ digits_value (take (i + 1) ds) = omega arith in
    let m : 1 * 1 ≤ digits_value (take (i + 1) ds) * 10 ^ (length ds - (i + 1)) = mul-le-mul o q in
    sym (ap not (ne_eqb (digits_value ds) 0 (λ z. omega arith)))
