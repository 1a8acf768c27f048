-- The bytes that part a sort word, as the program names them.
use Rattle.std.specs.Prelude.{ℕ, Bool}
use Rattle.fmt_sort.specs.Pieces.{is_comma, is_colon, is_mark}
use Rattle.fmt_sort.specs.declared.mark.Mark.{Mark}
use Rattle.fmt_sort.specs.declared.mark.Mark.TheVariants.{Comma, Colon, Limit}

-- whether a byte is this mark
abbrev pub is_marked : Mark → ℕ → Bool
is_marked Comma = is_comma
is_marked Colon = is_colon
is_marked Limit = is_mark
