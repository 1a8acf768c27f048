-- Names and rows of the program as the definitions see them.
use Rattle.std.specs.Prelude.{ℕ, List, Bool, map}
use Rattle.std.specs.Borrow.{Bor}
use Rattle.std.specs.List.{list_any}
use Rattle.std.specs.Str.{bytes_eq}
use Rattle.word_list.specs.declared.option_table.OptionRow.{OptionRow}
use Rattle.word_list.specs.OptionTable.{Row}

-- names as texts
abbrev pub texts_in : List (Bor (List ℕ)) → List (List ℕ)
texts_in names = map (λ name. name.now) names

-- a row, its names as texts
abbrev pub plain_row : OptionRow → Row
plain_row row = record { names = texts_in row.names.now; meaning = row.meaning }

-- rows in their order
abbrev pub plain_rows : List OptionRow → List Row
plain_rows = map plain_row

-- whether a row has this name
abbrev pub has_name : List ℕ → OptionRow → Bool
has_name name row = list_any (λ known. bytes_eq known.now name) row.names.now
