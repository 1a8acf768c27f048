-- Whole numbers in a path: an optional minus and 1 to 18 digits, behind which no byte of a word stands.
use Rattle.std.specs.Prelude.{ℕ, ◌+◌, List, length, take, drop, Bool, ◌&&◌, not, ◌==◌, nat_le, nat_lt, ℤ, Ok, Err, if◌then◌else◌}
use Rattle.std.specs.List.{prefix_len}
use Rattle.text_base.specs.Spelling.{is_digit}
use Rattle.text_base.specs.Value.{digits_value, signed}
use Rattle.read_base.specs.Reads.{Or, Read, ◌>>=◌, is_at}
use Rattle.tpl_lang.specs.declared.tpl_kind.TplKind.{TplKind}
use Rattle.tpl_lang.specs.declared.tpl_kind.TplKind.TheVariants.{Syntax}
use Rattle.tpl_lang.specs.Bytes.{has_word}

-- whether 1 to 18 digits and no other byte of a word stand at the front
abbrev pub begins_int : List ℕ → Bool
begins_int t = let n = prefix_len is_digit t in nat_le 1 n && nat_le n 18 && not (has_word (drop n t))

-- the length of a minus at the front
abbrev pub minus_length : List ℕ → ℕ
minus_length t = if is_at 45 t then 1 else 0

-- what an int counts
abbrev pub int_value : List ℕ → ℤ
int_value spelling = signed (is_at 45 spelling) (digits_value (drop (minus_length spelling) spelling))

-- How many digits an int has, behind its minus. The fault stands at the first byte that can't be there: no digit, a 19th digit, another byte of a word
-- behind them.
unfoldable pub int_length : List ℕ → Or TplKind ℕ
int_length u =
    let n = prefix_len is_digit u in
    if n == 0 then Err (Syntax, length u)
    else if nat_lt 18 n then Err (Syntax, length (drop 18 u))
    else if has_word (drop n u) then Err (Syntax, length (drop n u))
    else Ok n

-- an int as it is spelled
unfoldable pub int_at : List ℕ → Read TplKind (List ℕ)
int_at t = let m = minus_length t in do
  n ← int_length (drop m t)
  Ok (take (m + n) t, drop (m + n) t)
