-- The front of a text.
use Rattle.std.specs.Prelude.{ℕ, List, length, take, nat_le, if◌then◌else◌}
use Rattle.std.specs.Fmt.Cut.{floor_char_boundary}

-- the text where it has at most n bytes; else its bytes up to the last place, at n or before, between two characters
abbrev pub byte_cut : ℕ → List ℕ → List ℕ
byte_cut n text = if nat_le (length text) n then text else take (floor_char_boundary text n) text
