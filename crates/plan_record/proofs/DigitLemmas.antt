-- A number in decimal has digits alone.
use Rattle.std.proofs.Common.{◌≡◌, ℕ, suc, ◌+◌, ◌*◌, ◌-◌, ◌<◌, ◌^◌, Bool, true, false, List, [], ◌∷◌, length, get_or, fold, refl, ◌∙◌, ap, arith}
use Rattle.std.specs.Prelude.{◌&&◌, not, decimal, nat_eq}
use Rattle.std.specs.Int.{IsInRange}
use Rattle.std.proofs.lemmas.Bool.Decides.{nat_tests}
use Rattle.std.proofs.lemmas.Str.Parse.{IsNumeralModel, numerals_by_fold, tells_by_index}
use Rattle.std.proofs.lemmas.Fmt.{digits_decimal}
use Rattle.plan_record.specs.Plan.{is_without}

abbrev IsDigits : List ℕ → Type 0
IsDigits digits = (k : ℕ) → k < length digits → IsInRange 48 57 (get_or digits k 0)

abbrev number_of : List ℕ → ℕ
number_of = fold (λ n digit. 10 * n + (digit - 48)) 0

own : IsNumeralModel IsDigits number_of
own = numerals_by_fold IsDigits tells_by_index (λ (n : ℕ) (ds : List ℕ). fold (λ m digit. 10 * m + (digit - 48)) n ds)
    (record { empty = λ n. refl; more = λ n c cs r. ap (λ (k : ℕ). fold (λ m digit. 10 * m + (digit - 48)) k cs) (omega arith) })

other_byte : (byte digit : ℕ) → byte < 48 → IsInRange 48 57 digit → nat_eq byte digit ≡ false
other_byte byte digit low is = let least = is.0 in grind (arith, nat_tests, least)

digits_without : (byte : ℕ) (digits : List ℕ) → byte < 48 → IsDigits digits → is_without byte digits ≡ true
digits_without byte [] low is = refl
digits_without byte (digit ∷ digits) low is =
    ap (λ (v : Bool). not v && is_without byte digits) (other_byte byte digit low (is 0 (omega arith)))
    ∙ digits_without byte digits low (λ k below. is (suc k) (omega arith))

pub no_point : (n : ℕ) → n < 2 ^ 64 → is_without 46 (decimal n) ≡ true
no_point n small = digits_without 46 (decimal n) (omega arith) (digits_decimal own n small)

pub no_line_feed : (n : ℕ) → n < 2 ^ 64 → is_without 10 (decimal n) ≡ true
no_line_feed n small = digits_without 10 (decimal n) (omega arith) (digits_decimal own n small)
