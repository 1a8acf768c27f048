-- Comparing, adding, subtracting and multiplying numbers, in whole numbers without bounds; only an answer is tested for its range.
use Rattle.std.specs.Prelude.{ℕ, ◌*◌, ◌^◌, ℤ, pos, negsuc, ◌+ℤ◌, ◌-ℤ◌, ◌*ℤ◌, Bool, true, false, ◌&&◌, nat_lt, if◌then◌else◌, unsigned_abs, Option, Some, None}
use Rattle.std.specs.declared.cmp.Ordering.{Ordering}
use Rattle.std.specs.Ordering.{int_cmp}
use Rattle.text_base.specs.Number.{Number, whole, decimal}
use Rattle.text_base.specs.Value.{round_half_even, signed, fits_64}

-- a number's count of thousand-millionths
abbrev pub nano_of : Number → ℤ
nano_of (whole n) = n *ℤ pos (10 ^ 9)
nano_of (decimal n) = n

-- how two numbers compare
abbrev pub compared : Number → Number → Ordering
compared a b = int_cmp (nano_of a) (nano_of b)

-- whether a whole number is below 0
abbrev pub is_negative : ℤ → Bool
is_negative (pos _) = false
is_negative (negsuc _) = true

-- a whole number, where it fits 64 bits
abbrev pub whole_in_range : ℤ → Option Number
whole_in_range n = if fits_64 (is_negative n) (unsigned_abs n) then Some (whole n) else None

-- a count of thousand-millionths, where it is below 10^27
abbrev pub decimal_in_range : ℤ → Option Number
decimal_in_range n = if nat_lt (unsigned_abs n) (10 ^ 27) then Some (decimal n) else None

-- the decimal of n / d thousand-millionths, rounded half to even, where it is in range before and after that
abbrev pub rounded_decimal : Bool → ℕ → ℕ → Option Number
rounded_decimal negative n d =
    let nano = round_half_even n d in
    if nat_lt n (10 ^ 27 * d) && nat_lt nano (10 ^ 27) then Some (decimal (signed negative nano)) else None

-- the sum: whole where both are whole, else a decimal
abbrev pub sum_of : Number → Number → Option Number
sum_of (whole a) (whole b) = whole_in_range (a +ℤ b)
sum_of a b = decimal_in_range (nano_of a +ℤ nano_of b)

-- the difference, likewise
abbrev pub difference_of : Number → Number → Option Number
difference_of (whole a) (whole b) = whole_in_range (a -ℤ b)
difference_of a b = decimal_in_range (nano_of a -ℤ nano_of b)

-- the product, likewise; of two counts of thousand-millionths it is a count of 10^-18
abbrev pub product_of : Number → Number → Option Number
product_of (whole a) (whole b) = whole_in_range (a *ℤ b)
product_of a b =
    let product = nano_of a *ℤ nano_of b in
    rounded_decimal (is_negative product) (unsigned_abs product) (10 ^ 9)
