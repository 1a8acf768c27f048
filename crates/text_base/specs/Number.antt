-- The numbers of an information file: whole numbers, and decimals counted in thousand-millionths.
use Rattle.std.specs.Prelude.{ℤ}
use Rattle.text_base.specs.declared.number.Num.{Num}
use Rattle.text_base.specs.declared.number.Num.TheVariants.{Int, Dec}

-- a whole number, or a decimal as its count of 10^-9
pub data Number : Type 0 where
  whole : ℤ → Number
  decimal : ℤ → Number

-- the number that a value of the program stands for
abbrev pub number_of : Num → Number
number_of (Int n) = whole n
number_of (Dec d) = decimal d.nano
