-- The number that stands at a place of a text.
use Rattle.std.specs.Prelude.{ℕ, List, take, drop, Option}
use Rattle.text_base.specs.Number.{Number}
use Rattle.text_base.specs.Spelling.{number_length}
use Rattle.text_base.specs.Value.{number_value}

-- the longest number that begins at the place, as it is spelled there; empty where none begins
abbrev pub spelling_at : List ℕ → ℕ → List ℕ
spelling_at bytes at = take (number_length (drop at bytes)) (drop at bytes)

-- its value, where it is in range
abbrev pub value_at : List ℕ → ℕ → Option Number
value_at bytes at = number_value (spelling_at bytes at)
