-- The parts of a number as the program holds them.
use Rattle.std.specs.Prelude.{ℕ, ◌≡◌, ◌+◌, ◌-◌, ◌*◌, ◌<◌, ◌≤◌, List, length, true, fold, slice_index, take, drop, if◌then◌else◌}
use Rattle.text_base.specs.declared.num_spelling.Spelled.{Spelled}
use Rattle.text_base.specs.Spelling.{is_digit, number_length}
use Rattle.text_base.specs.Value.{Parts, parts}

-- what the slices of the parts hold
abbrev pub spelled_parts : Spelled → Parts
spelled_parts s = record {
  is_negative = s.is_negative;
  int = s.int.now;
  frac = s.frac.now;
  exponent_is_negative = s.exponent_is_negative;
  exponent = s.exponent.now;
  is_whole = s.is_whole;
}

-- every byte is a digit
abbrev pub AreDigits : List ℕ → Type 0
AreDigits bs = (k : ℕ) → k < length bs → is_digit (slice_index bs k) ≡ true

-- every digit of the parts is one
pub record HasDigits (p : Parts) : Type 0 where
  pub int : AreDigits p.int
  pub frac : AreDigits p.frac
  pub exponent : AreDigits p.exponent

-- what digits count behind a count
abbrev pub counted_on : ℕ → List ℕ → ℕ
counted_on = fold (λ n b. 10 * n + (b - 48))

-- the place of 10^-10, counted from the first digit of int, with an exponent of this size
abbrev pub place : Parts → ℕ → ℕ
place p e = if p.exponent_is_negative then (length p.int + 10) - e else length p.int + 10 + e

-- the number at the front of a text has these parts, and this stands behind it
pub record StandsAtFront (bytes : List ℕ) (spelled : Spelled) (rest : List ℕ) : Type 0 where
  pub begins : 0 < number_length bytes
  pub fits : number_length bytes ≤ length bytes
  pub is_spelled : spelled_parts spelled ≡ parts (take (number_length bytes) bytes)
  pub is_behind : rest ≡ drop (number_length bytes) bytes
  pub has_digits : HasDigits (spelled_parts spelled)
  pub is_within : length spelled.int.now + length spelled.frac.now ≤ number_length bytes
