-- Large numbers in short, as 1M.
use Rattle.std.specs.Prelude.{ℕ, ◌/◌, ◌^◌, List, [], ◌++◌, Bool, ◌==◌, nat_le, if◌then◌else◌, codes, unsigned_abs}
use Rattle.std.specs.Fmt.{signed_decimal}
use Rattle.text_base.specs.Number.{Number}
use Rattle.text_base.specs.Arithmetic.{nano_of, is_negative}
use Rattle.text_base.specs.Value.{signed}

-- the greatest power, of 1 to 5, of a factor that is not above a size; 0 where none is
abbrev pub power_within : ℕ → ℕ → ℕ
power_within factor size =
    if nat_le (factor ^ 5) size then 5
    else if nat_le (factor ^ 4) size then 4
    else if nat_le (factor ^ 3) size then 3
    else if nat_le (factor ^ 2) size then 2
    else if nat_le factor size then 1
    else 0

-- the suffix of a power of 1000 or 1024
abbrev pub suffix_of : ℕ → ℕ → List ℕ
suffix_of factor power =
    if power == 0 then []
    else if power == 1 then (if factor == 1000 then codes "k" else codes "Ki")
    else if power == 2 then (if factor == 1000 then codes "M" else codes "Mi")
    else if power == 3 then (if factor == 1000 then codes "G" else codes "Gi")
    else if power == 4 then (if factor == 1000 then codes "T" else codes "Ti")
    else (if factor == 1000 then codes "P" else codes "Pi")

-- a size in its greatest power of the factor, cut off toward 0, under a sign, and the suffix of that power
abbrev pub scaled : Bool → ℕ → ℕ → List ℕ
scaled negative size factor =
    let power = power_within factor size in
    signed_decimal (signed negative (size / factor ^ power)) ++ suffix_of factor power

-- a number in short: what it counts in ones, cut off toward 0, in its greatest power of the factor
abbrev pub with_suffix : Number → ℕ → List ℕ
with_suffix n factor = scaled (is_negative (nano_of n)) (unsigned_abs (nano_of n) / 10 ^ 9) factor
