-- The value of a spelled number: a whole number, or the multiple of 10^-9 nearest to it, half to even.
use Rattle.std.specs.Prelude.{ℕ, ◌+◌, ◌-◌, ◌*◌, ◌/◌, ◌%◌, ◌^◌, ℤ, pos, negsuc, List, ◌++◌, take, drop, length, Bool, true, false, ◌&&◌, ◌==◌, nat_lt, nat_le, if◌then◌else◌, fold, slice_index, Option, Some, None}
use Rattle.text_base.specs.Spelling.{minus_length, sign_length, int_length, frac_length}
use Rattle.text_base.specs.Number.{Number, whole, decimal}

-- what digits count
abbrev pub digits_value : List ℕ → ℕ
digits_value = fold (λ n b. 10 * n + (b - 48)) 0

-- the parts of a spelling: its sign, the digits before and behind the point, the sign and the digits of the exponent
pub record Parts : Type 0 where
  pub is_negative : Bool
  pub int : List ℕ
  pub frac : List ℕ
  pub exponent_is_negative : Bool
  pub exponent : List ℕ
  pub is_whole : Bool

-- the parts of a number that is spelled so
unfoldable pub parts : List ℕ → Parts
parts spelling =
    let minus = minus_length spelling in
    let from_int = drop minus spelling in
    let int = int_length from_int in
    let from_frac = drop int from_int in
    let frac = frac_length from_frac in
    let from_exp = drop frac from_frac in
    let sign = sign_length (drop 1 from_exp) in
    record {
      is_negative = minus == 1;
      int = take int from_int;
      frac = drop 1 (take frac from_frac);
      exponent_is_negative = slice_index from_exp 1 == 45;
      exponent = drop (1 + sign) from_exp;
      is_whole = (frac == 0) && (length from_exp == 0);
    }

-- the upper part of the exact value: without its sign, that is numerator / denominator times 10^-9
abbrev pub numerator : Parts → ℕ
numerator p = digits_value (p.int ++ p.frac) * 10 ^ (9 + (if p.exponent_is_negative then 0 else digits_value p.exponent))

-- the lower part of the exact value
abbrev pub denominator : Parts → ℕ
denominator p = 10 ^ (length p.frac + (if p.exponent_is_negative then digits_value p.exponent else 0))

-- the whole number nearest to n / d, and of two the even one
abbrev pub round_half_even : ℕ → ℕ → ℕ
round_half_even n d =
    if nat_lt (2 * (n % d)) d then n / d
    else if nat_lt d (2 * (n % d)) then n / d + 1
    else n / d + (n / d) % 2

-- a number by its sign and its size
abbrev pub signed : Bool → ℕ → ℤ
signed true n = if n == 0 then pos 0 else negsuc (n - 1)
signed false n = pos n

-- whether a size fits 64 bits under its sign
abbrev pub fits_64 : Bool → ℕ → Bool
fits_64 true n = nat_le n (2 ^ 63)
fits_64 false n = nat_lt n (2 ^ 63)

-- the whole number that is spelled so, in range or not
abbrev pub whole_of : Parts → Number
whole_of p = whole (signed p.is_negative (digits_value p.int))

-- the decimal that is spelled so, in range or not
abbrev pub decimal_of : Parts → Number
decimal_of p = decimal (signed p.is_negative (round_half_even (numerator p) (denominator p)))

-- the number that a spelling has, in range or not
unfoldable pub value_of : List ℕ → Number
value_of spelling = if (parts spelling).is_whole then whole_of (parts spelling) else decimal_of (parts spelling)

-- the value of a whole number, where it is in range
abbrev pub whole_value : Parts → Option Number
whole_value p = if fits_64 p.is_negative (digits_value p.int) then Some (whole_of p) else None

-- the value of any other number: below 10^18 before rounding, and below 10^27 thousand-millionths after it
abbrev pub decimal_value : Parts → Option Number
decimal_value p =
    if nat_lt (numerator p) (10 ^ 27 * denominator p) && nat_lt (round_half_even (numerator p) (denominator p)) (10 ^ 27) then Some (decimal_of p)
    else None

-- the value of a spelling of any length, where it is in range
unfoldable pub exact_value : List ℕ → Option Number
exact_value spelling = if (parts spelling).is_whole then whole_value (parts spelling) else decimal_value (parts spelling)

-- the value of a spelling; none where it has over 64 bytes or is out of range
unfoldable pub number_value : List ℕ → Option Number
number_value spelling = if nat_le (length spelling) 64 then exact_value spelling else None
