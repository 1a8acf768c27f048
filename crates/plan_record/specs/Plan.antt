-- The text of a record: which pieces a component has, and where each is fetched from.
use Rattle.std.specs.Prelude.{ℕ, Bool, true, not, ◌&&◌, List, [], ◌∷◌, ◌++◌, length, codes, decimal, nat_eq}
use Rattle.plan_record.specs.declared.line.Line.{Line}
use Rattle.plan_record.specs.declared.line.Line.TheVariants.{Url, NoUrl}

-- the line of a piece: `u URL`, or `x` where it has none
abbrev pub line_text : Line → List ℕ
line_text (Url url) = codes "u " ++ (url ++ codes "\n")
line_text NoUrl = codes "x\n"

-- the lines of pieces, one after another
abbrev pub lines_text : List Line → List ℕ
lines_text [] = []
lines_text (line ∷ lines) = line_text line ++ lines_text lines

-- the whole text: the form's name, the number of pieces, and their lines
abbrev pub plan_text : List Line → List ℕ
plan_text lines = codes "ytdl-plan 1\n" ++ (decimal (length lines) ++ (codes "\n" ++ lines_text lines))

-- The byte is none of these.
abbrev pub is_without : ℕ → List ℕ → Bool
is_without byte [] = true
is_without byte (other ∷ bytes) = not (nat_eq byte other) && is_without byte bytes

-- The URL, if any, has no LF.
abbrev pub is_line : Line → Bool
is_line (Url url) = is_without 10 url
is_line NoUrl = true

-- None of the URLs has one.
abbrev pub are_lines : List Line → Bool
are_lines [] = true
are_lines (line ∷ lines) = is_line line && are_lines lines
