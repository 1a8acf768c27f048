-- A piece of a sort word: `[+]field[(:|~)limit]`, with spaces around it.
use Rattle.std.specs.Prelude.{ℕ, List, take, drop, Bool, ◌||◌, ◌==◌, if◌then◌else◌, slice_index}
use Rattle.std.specs.List.{position_or_len}
use Rattle.text_base.specs.Spaces.{trimmed}

-- the mark between pieces
abbrev pub is_comma : ℕ → Bool
is_comma b = b == 44

-- the mark between limits
abbrev pub is_colon : ℕ → Bool
is_colon b = b == 58

-- a mark in front of a limit: `:` or `~`
abbrev pub is_mark : ℕ → Bool
is_mark b = b == 58 || b == 126

-- the place of the first byte that passes a test, or the length
abbrev pub cut : (ℕ → Bool) → List ℕ → ℕ
cut p bs = position_or_len p bs

-- what stands before that byte
abbrev pub before : (ℕ → Bool) → List ℕ → List ℕ
before p bs = take (cut p bs) bs

-- what stands behind that byte
abbrev pub behind : (ℕ → Bool) → List ℕ → List ℕ
behind p bs = drop 1 (drop (cut p bs) bs)

-- the parts of a piece: whether `+` stands, the name, whether `~` stands, and the limit, which is empty where there is none
pub record Parts : Type 0 where
  pub reversed : Bool
  pub name : List ℕ
  pub nearest : Bool
  pub limit : List ℕ

-- the parts of a piece without spaces and without its `+`
abbrev pub parts_of : Bool → List ℕ → Parts
parts_of reversed field = record {
  reversed = reversed;
  name = before is_mark field;
  nearest = slice_index (drop (cut is_mark field) field) 0 == 126;
  limit = behind is_mark field;
}

-- the parts of a piece as it is written
abbrev pub parts : List ℕ → Parts
parts piece =
    let reversed = slice_index (trimmed piece) 0 == 43 in
    parts_of reversed (if reversed then drop 1 (trimmed piece) else trimmed piece)
