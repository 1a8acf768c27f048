-- A number is read digit by digit.
use Rattle.std.proofs.Common.{◌≡◌, ℕ, ◌+◌, ◌*◌, ◌<◌, List, length, take, get_or, ◌∙◌, refl, arith, rules}
use Rattle.std.specs.Prelude.{◌-◌, true}
use Rattle.std.specs.List.{list_all}
use Rattle.std.specs.Char.{is_ascii_digit, digit_value}
use Rattle.std.specs.Int.{IsInRange}
use Rattle.std.specs.Str.Parse.{digits_value}
use Rattle.std.proofs.lemmas.Int.Digits.{digits_value_more}
use Rattle.std.proofs.lemmas.List.Folds.{list_all_more}
use Rattle.std.proofs.lemmas.Str.{digit_value_digit}
use Rattle.file_server.specs.Number.{capped}

pub capped-more : (n d : ℕ) → capped (capped (capped n * 10) + d) ≡ capped (n * 10 + d)
capped-more n d = omega arith

digit_range : (b : ℕ) → is_ascii_digit b ≡ true → IsInRange 48 57 b
digit_range b is = search (rules, is)

-- One more digit of a number, as far as it fits.
pub number_more : (text : List ℕ) (i value : ℕ) → i < length text → value ≡ capped (digits_value 10 (take i text))
    → is_ascii_digit (get_or text i 0) ≡ true
    → capped (capped (value * 10) + (get_or text i 0 - 48)) ≡ capped (digits_value 10 (take (i + 1) text))
number_more text i value within is digit =
    let d : digit_value (get_or text i 0) + 48 ≡ get_or text i 0 = digit_value_digit (get_or text i 0) (digit_range _ digit) in
    let e : get_or text i 0 - 48 ≡ digit_value (get_or text i 0) = omega arith in
    rw (is, e, digits_value_more 10 text i within) (capped-more (digits_value 10 (take i text)) (digit_value (get_or text i 0)))

pub digits_more : (text : List ℕ) (i : ℕ) → i < length text → list_all is_ascii_digit (take i text) ≡ true
    → is_ascii_digit (get_or text i 0) ≡ true → list_all is_ascii_digit (take (i + 1) text) ≡ true
digits_more text i within all digit = list_all_more is_ascii_digit text i 0 within ∙ rw (all, digit) refl
