-- Sizes as users write them: digits, a point and 1 to 9 digits where a point stands, and a unit. A unit is a letter of `K M G T P` in
-- either case, then `i`, then a mark for bytes, `B` or `b`; each may be left out, but `i` needs a letter.
use Rattle.std.specs.Prelude.{ℕ, ◌*◌, ◌-◌, ◌^◌, pos, List, [], ◌∷◌, ◌++◌, take, drop, length, Bool, true, false, ◌&&◌, ◌||◌, ◌==◌, nat_le, if◌then◌else◌, slice_index, Option, Some, None}
use Rattle.std.specs.Option.{option_and_then}
use Rattle.text_base.specs.Number.{Number}
use Rattle.text_base.specs.Spelling.{digits_length}
use Rattle.text_base.specs.Value.{digits_value}
use Rattle.text_base.specs.Arithmetic.{whole_in_range, decimal_in_range}

-- the digits at the front of a text
abbrev pub digits_front : List ℕ → List ℕ
digits_front bs = take (digits_length bs) bs

-- what stands behind the digits at the front of a text
abbrev pub digits_behind : List ℕ → List ℕ
digits_behind bs = drop (digits_length bs) bs

-- the power of the base that a letter stands for; 0 for any other byte
abbrev pub power_of : ℕ → ℕ
power_of b =
    if b == 75 || b == 107 then 1
    else if b == 77 || b == 109 then 2
    else if b == 71 || b == 103 then 3
    else if b == 84 || b == 116 then 4
    else if b == 80 || b == 112 then 5
    else 0

-- whether nothing is left of a unit but a mark for bytes
abbrev pub is_last : List ℕ → Bool
is_last [] = true
is_last (b ∷ []) = b == 66 || b == 98
is_last (b ∷ c ∷ bs) = false

-- the factor of a letter: that power of the base, or of 1024 where `i` stands behind it
abbrev pub factor_by_letter : ℕ → ℕ → List ℕ → Option ℕ
factor_by_letter base power behind =
    if is_last behind then Some (base ^ power)
    else if slice_index behind 0 == 105 && is_last (drop 1 behind) then Some (1024 ^ power)
    else None

-- the factor that a unit stands for, where it is one
abbrev pub factor_of : ℕ → List ℕ → Option ℕ
factor_of base unit =
    let power = power_of (slice_index unit 0) in
    if power == 0 then (if is_last unit then Some 1 else None) else factor_by_letter base power (drop 1 unit)

-- a size without a point: a whole number
abbrev pub whole_size : List ℕ → ℕ → Option Number
whole_size int factor = whole_in_range (pos (digits_value int * factor))

-- a size with a point: a decimal, by its count of thousand-millionths
abbrev pub decimal_size : List ℕ → List ℕ → ℕ → Option Number
decimal_size int frac factor = decimal_in_range (pos (digits_value (int ++ frac) * 10 ^ (9 - length frac) * factor))

-- the size of these digits, a point and what stands behind it
abbrev pub size_behind_point : ℕ → List ℕ → List ℕ → Option Number
size_behind_point base int behind =
    let frac = digits_front behind in
    if nat_le 1 (length frac) && nat_le (length frac) 9 then option_and_then (decimal_size int frac) (factor_of base (digits_behind behind))
    else None

-- the size that a text spells, where it is one and in range
abbrev pub size_of : ℕ → List ℕ → Option Number
size_of base text =
    let int = digits_front text in
    let behind = digits_behind text in
    if length int == 0 then None
    else if slice_index behind 0 == 46 then size_behind_point base int (drop 1 behind)
    else option_and_then (whole_size int) (factor_of base behind)
