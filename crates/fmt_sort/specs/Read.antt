-- The fields of pieces and words as the readers hold them.
use Rattle.std.specs.Prelude.{ℕ, List, ◌∷◌, map, Option, reverse}
use Rattle.std.specs.Option.{option_map, option_to_list}
use Rattle.fmt_sort.specs.Spec.{Given, given_of}
use Rattle.fmt_sort.specs.declared.given.GivenField.{GivenField}
use Rattle.fmt_sort.specs.declared.sort_words.SortWords.{SortWords}

-- the one or two fields of a piece
abbrev pub pair_of : GivenField × Option GivenField → List Given
pair_of p = given_of p.0 ∷ option_to_list (option_map given_of p.1)

-- the fields that are held, the last first
abbrev pub latest_first : List GivenField → List Given
latest_first fields = map given_of (reverse fields)

-- the fields of all words that were read, a later word's before an earlier one's
abbrev pub given_in : SortWords → List Given
given_in words = latest_first words.fields.items

-- how many pieces these words have
abbrev pub pieces_in : SortWords → ℕ
pieces_in words = words.pieces
