-- Sums over the parts of a file.
use Rattle.std.specs.Prelude.{◌≡◌, ◌≤◌, ◌<◌, ◌+◌, ◌^◌, List, [], ◌∷◌, ℤ, pos, ◌+ℤ◌, ◌*ℤ◌, Bool, true, false, ◌&&◌, if◌then◌else◌, unsigned_abs, Option, Some, None, map}
use Rattle.std.specs.Option.{option_map, option_and_then, option_or}
use Rattle.text_base.specs.Number.{Number, whole, decimal}
use Rattle.text_base.specs.Arithmetic.{nano_of, whole_in_range, decimal_in_range}
use Rattle.text_base.specs.declared.fields.NumField.TheVariants.{Tbr, Filesize, FilesizeApprox}
use Rattle.info_item.specs.Item.{Format}
use Rattle.info_item.specs.Fields.{number_of_field}
use Rattle.info_item.specs.declared.sums.Measure.{Measure}
use Rattle.info_item.specs.declared.sums.Measure.TheVariants.{Rate, Size}
use Rattle.info_item.specs.declared.sums.Sum.{Sum}

-- all of the values, where each is known
abbrev pub all_known : {A : Type 0} → List (Option A) → Option (List A)
all_known [] = Some []
all_known (None ∷ os) = None
all_known (Some x ∷ os) = option_map (λ xs. x ∷ xs) (all_known os)

-- whether a number is whole
abbrev pub is_whole : Number → Bool
is_whole (whole n) = true
is_whole (decimal n) = false

-- a whole number, and 0 for a decimal
abbrev pub whole_part : Number → ℤ
whole_part (whole n) = n
whole_part (decimal n) = pos 0

-- whether all numbers are whole
abbrev pub all_whole : List Number → Bool
all_whole [] = true
all_whole (n ∷ ns) = is_whole n && all_whole ns

-- the sum of those that are whole
abbrev pub whole_total : List Number → ℤ
whole_total [] = pos 0
whole_total (n ∷ ns) = whole_part n +ℤ whole_total ns

-- the sum of all, in thousand-millionths
abbrev pub nano_total : List Number → ℤ
nano_total [] = pos 0
nano_total (n ∷ ns) = nano_of n +ℤ nano_total ns

-- the sum, where it is in range as a whole: whole where all numbers are whole, else a decimal
abbrev pub sum_of : List Number → Option Number
sum_of ns = if all_whole ns then whole_in_range (whole_total ns) else decimal_in_range (nano_total ns)

-- the number of a part that is summed: its bit rate; its size, `filesize` or else `filesize_approx`
abbrev pub measured : Measure → Format → Option Number
measured Rate f = number_of_field f.tree Tbr
measured Size f = option_or (number_of_field f.tree Filesize) (number_of_field f.tree FilesizeApprox)

-- the sum over parts, where each has its number and the sum is in range
abbrev pub sum_over : Measure → List Format → Option Number
sum_over measure parts = option_and_then sum_of (all_known (map (measured measure) parts))

-- the thousand-millionths of a sum that goes on
abbrev pub nano_in : Sum → ℤ
nano_in s = s.carries *ℤ pos (10 ^ 36) +ℤ s.nano

-- one sum is another with one more number
pub record Adds (old : Sum) (n : Number) (new : Sum) : Type 0 where
  pub kind : new.is_whole ≡ (old.is_whole && is_whole n)
  pub whole : new.whole ≡ old.whole +ℤ whole_part n
  pub nano : nano_in new ≡ nano_in old +ℤ nano_of n
  pub few_whole : unsigned_abs new.whole ≤ unsigned_abs old.whole + 2 ^ 63
  pub few_carries : unsigned_abs new.carries ≤ unsigned_abs old.carries + 1
  pub small : unsigned_abs new.nano < 10 ^ 36

-- the number that a sum is, where it is in range
abbrev pub number_in_range : Sum → Option Number
number_in_range s = if s.is_whole then whole_in_range s.whole else decimal_in_range (nano_in s)
