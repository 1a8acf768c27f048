-- A text, cut at the first of a byte.
use Rattle.std.specs.Prelude.{ℕ, List, drop, ◌==◌}
use Rattle.std.specs.List.{before_first, position_or_len}

-- what stands before the first of this byte
abbrev pub before : ℕ → List ℕ → List ℕ
before byte text = before_first (λ b. b == byte) text

-- what stands from the first of this byte on
abbrev pub from_first : ℕ → List ℕ → List ℕ
from_first byte text = drop (position_or_len (λ b. b == byte) text) text
