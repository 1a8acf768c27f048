-- How a number is printed.
use Rattle.std.specs.Prelude.{ℕ, zero, suc, ◌+◌, ◌/◌, ◌%◌, ◌^◌, List, [], ◌∷◌, ◌++◌, ◌==◌, if◌then◌else◌, unsigned_abs, pos}
use Rattle.std.specs.Fmt.{signed_decimal}
use Rattle.std.specs.List.{list_all}
use Rattle.text_base.specs.Number.{Number, whole, decimal}
use Rattle.text_base.specs.Arithmetic.{is_negative}

-- a number below 10^k as k digits
unfoldable pub padded : ℕ → ℕ → List ℕ
padded zero n = []
padded (suc k) n = (48 + n / 10 ^ k) ∷ padded k (n % 10 ^ k)

-- a list of digits without the zeros at its end, but with its first digit
unfoldable pub trimmed : List ℕ → List ℕ
trimmed [] = []
trimmed (d ∷ ds) = d ∷ (if list_all (λ b. b == 48) ds then [] else trimmed ds)

-- a whole number in decimal; a decimal as a minus sign where it is negative, the whole part, a point and its decimals
abbrev pub text_of : Number → List ℕ
text_of (whole n) = signed_decimal n
text_of (decimal n) =
    (if is_negative n then 45 ∷ [] else [])
    ++ signed_decimal (pos (unsigned_abs n / 10 ^ 9))
    ++ 46 ∷ trimmed (padded 9 (unsigned_abs n % 10 ^ 9))
