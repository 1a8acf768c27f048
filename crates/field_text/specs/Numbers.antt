-- Numbers in a field.
use Rattle.std.specs.Prelude.{ℕ, ◌-◌, ◌/◌, ◌%◌, ◌^◌, List, [], ◌++◌, length, replicate, Bool, true, false, not, ◌&&◌, ◌==◌, min, if◌then◌else◌, codes, unsigned_abs}
use Rattle.std.specs.Fmt.{decimal, radix_digits}
use Rattle.text_base.specs.Number.{Number}
use Rattle.text_base.specs.Arithmetic.{nano_of, is_negative}
use Rattle.text_base.specs.Value.{round_half_even}
use Rattle.text_base.specs.NumberText.{padded}
use Rattle.field_text.specs.declared.sign.Sign.{Sign}
use Rattle.field_text.specs.declared.sign.Sign.TheVariants.{Minus, Plus, Space}
use Rattle.field_text.specs.declared.radix.Radix.{Radix}
use Rattle.field_text.specs.declared.radix.Radix.TheVariants.{Decimal, Octal, LowerHex, UpperHex}
use Rattle.field_text.specs.declared.numbers.IntegerForm.{IntegerForm}
use Rattle.field_text.specs.declared.numbers.DecimalForm.{DecimalForm}

-- what stands before a number that is not negative
abbrev pub mark_of : Sign → List ℕ
mark_of Minus = []
mark_of Plus = codes "+"
mark_of Space = codes " "

-- the sign of a number
abbrev pub sign_of : Sign → Bool → List ℕ
sign_of sign true = codes "-"
sign_of sign false = mark_of sign

-- the digits of a size
abbrev pub digits_of : Radix → ℕ → List ℕ
digits_of Decimal n = decimal n
digits_of Octal n = radix_digits 8 false n
digits_of LowerHex n = radix_digits 16 false n
digits_of UpperHex n = radix_digits 16 true n

-- what tells a radix
abbrev pub prefix_of : Radix → List ℕ
prefix_of Decimal = []
prefix_of Octal = codes "0o"
prefix_of LowerHex = codes "0x"
prefix_of UpperHex = codes "0X"

-- so many zeros
abbrev pub zeros : ℕ → List ℕ
zeros n = replicate n 48

-- digits behind as many zeros as make them so many
abbrev pub at_least : ℕ → List ℕ → List ℕ
at_least least digits = zeros (least - length digits) ++ digits

-- a sign, a prefix and digits, with zeros before the digits up to a width
abbrev pub filled : ℕ → List ℕ → List ℕ → List ℕ → List ℕ
filled width sign prefix digits = sign ++ (prefix ++ at_least (width - length sign - length prefix) digits)

-- a number cut off toward 0; what is cut off to 0 has no minus
unfoldable pub integer_text : IntegerForm → Number → List ℕ
integer_text form n =
    let size = unsigned_abs (nano_of n) / 10 ^ 9 in
    let sign = sign_of form.sign (is_negative (nano_of n) && not (size == 0)) in
    let prefix = if form.prefixed then prefix_of form.radix else [] in
    filled form.width sign prefix (at_least form.least (digits_of form.radix size))

-- how many decimals a number can have that are not 0
abbrev pub own_places : ℕ → ℕ
own_places places = min places 9

-- a size of thousand-millionths, rounded half to even to so many decimals, and counted in the last of them
abbrev pub rounded : ℕ → ℕ → ℕ
rounded places size = round_half_even size (10 ^ (9 - own_places places))

-- the last so many digits of a number
abbrev pub last_digits : ℕ → ℕ → List ℕ
last_digits count n = padded count (n % 10 ^ count)

-- a point and so many decimals; nothing where there are none
abbrev pub decimals_of : ℕ → ℕ → List ℕ
decimals_of places count = if places == 0 then [] else codes "." ++ (last_digits (own_places places) count ++ zeros (places - 9))

-- the digits of a count of the last of so many decimals
abbrev pub decimal_digits : ℕ → ℕ → List ℕ
decimal_digits places count = decimal (count / 10 ^ own_places places) ++ decimals_of places count

-- a number with so many decimals, rounded half to even; what is rounded to 0 has no minus
unfoldable pub decimal_text : DecimalForm → Number → List ℕ
decimal_text form n =
    let count = rounded form.places (unsigned_abs (nano_of n)) in
    filled form.width (sign_of form.sign (is_negative (nano_of n) && not (count == 0))) [] (decimal_digits form.places count)
