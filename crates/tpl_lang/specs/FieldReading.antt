-- A field: expressions, a replacement, a default and a conversion.
use Rattle.std.specs.Prelude.{ℕ, List, [], ◌∷◌, length, take, drop, codes, Bool, false, ◌&&◌, ◌||◌, ◌==◌, nat_lt, Option, Some, None, is_some, Ok, Err, if◌then◌else◌}
use Rattle.std.specs.List.{prefix_len, list_any}
use Rattle.text_base.specs.Spelling.{is_digit}
use Rattle.text_base.specs.Value.{digits_value}
use Rattle.read_base.specs.Reads.{Read, ◌>>=◌, is_at, mark_at, run_at, all_at}
use Rattle.tpl_lang.specs.declared.tpl_kind.TplKind.{TplKind}
use Rattle.tpl_lang.specs.declared.tpl_kind.TplKind.TheVariants.{Syntax, Brace, TypeLetter}
use Rattle.tpl_lang.specs.declared.scan.Class.TheVariants.{Flag, Default, ReplacementText}
use Rattle.tpl_lang.specs.declared.replacement.Align.{Align}
use Rattle.tpl_lang.specs.declared.replacement.Align.TheVariants.{Left, Right, Center}
use Rattle.tpl_lang.specs.declared.replacement.ReplacementPart.{ReplacementPart}
use Rattle.tpl_lang.specs.declared.replacement.ReplacementPart.TheVariants as pieces
use Rattle.tpl_lang.specs.declared.conv.Conv.{Conv}
use Rattle.tpl_lang.specs.declared.conv.Flags.{Flags}
use Rattle.tpl_lang.specs.declared.conv.Kind.{Kind}
use Rattle.tpl_lang.specs.declared.conv.Kind.TheVariants.{Integer, Octal, LowerHex, UpperHex, Decimal, Text, Bytes, Json, Html, List as Items, Quoted, Suffixed, Sanitized, Unicode}
use Rattle.tpl_lang.specs.Bytes.{is_letter, is_word_byte, in_class}
use Rattle.tpl_lang.specs.ExprReading.{exprs_at}
use Rattle.tpl_lang.specs.Fields.{FieldView}

-- the fault of a brace: it stands at the brace, or at the end of the text where what stands there could still become right
abbrev pub refused_brace : List ℕ → List ℕ → Read TplKind ReplacementPart
refused_brace brace rest = if length rest == 0 then Err (Syntax, 0) else Err (Brace, length brace)

-- the side on which a value stands: `<`, `>` or `^`
abbrev pub align_of : List ℕ → Option Align
align_of t = if is_at 60 t then Some Left else if is_at 62 t then Some Right else if is_at 94 t then Some Center else None

-- the width behind the side: 1 to 5 digits and `}`
abbrev pub aligned_at : List ℕ → List ℕ → Option Align → Read TplKind ReplacementPart
aligned_at brace t None = refused_brace brace t
aligned_at brace t (Some align) =
    let n = prefix_len is_digit (drop 1 t) in
    let rest = drop n (drop 1 t) in
    if nat_lt 5 n then Err (Brace, length brace)
    else if n == 0 then refused_brace brace rest
    else if is_at 125 rest then Ok (pieces.Value align (digits_value (take n (drop 1 t))), drop 1 rest)
    else refused_brace brace rest

-- a value from its `{` on: `{}`, or a side and a width behind `{:`
unfoldable pub value_at : List ℕ → Read TplKind ReplacementPart
value_at t =
    let rest = drop 1 t in
    if is_at 125 rest then Ok (pieces.Value Left 0, drop 1 rest)
    else if is_at 58 rest then aligned_at t (drop 1 rest) (align_of (drop 1 rest))
    else refused_brace t rest

-- whether a replacement goes on: it ends at `|` and `)`
abbrev pub in_replacement : List ℕ → Bool
in_replacement [] = false
in_replacement (b ∷ bs) = in_class ReplacementText b || b == 123 || b == 125

-- a piece of a replacement: `{{` and `}}` are braces
unfoldable pub replacement_part_at : List ℕ → Read TplKind ReplacementPart
replacement_part_at t =
    if is_at 123 t then (if is_at 123 (drop 1 t) then Ok (pieces.Text (codes "{"), drop 1 (drop 1 t)) else value_at t)
    else if is_at 125 t then (if is_at 125 (drop 1 t) then Ok (pieces.Text (codes "}"), drop 1 (drop 1 t)) else refused_brace t (drop 1 t))
    else (do
      run ← run_at Syntax (in_class ReplacementText) t
      Ok (pieces.Text run.0, run.1))

-- a replacement from its `&` on, where one stands
unfoldable pub replacement_at : List ℕ → Read TplKind (Option (List ReplacementPart))
replacement_at t = if is_at 38 t then (do
  parts ← all_at in_replacement replacement_part_at (drop 1 t)
  Ok (Some parts.0, parts.1)) else Ok (None, t)

-- a default from its `|` on, where one stands, and what stands behind it
abbrev pub default_of : List ℕ → Option (List ℕ) × List ℕ
default_of t = let n = prefix_len (in_class Default) (drop 1 t) in if is_at 124 t then (Some (take n (drop 1 t)), drop n (drop 1 t)) else (None, t)

-- whether a flag stands in a run
abbrev pub has_flag : ℕ → List ℕ → Bool
has_flag flag run = list_any (λ b. b == flag) run

-- the flags in a run of them
abbrev pub flags_of : List ℕ → Flags
flags_of run = record { alternate = has_flag 35 run; zero = has_flag 48 run; left = has_flag 45 run; plus = has_flag 43 run; space = has_flag 32 run }

-- at most five digits, where digits stand; the fault stands at the sixth
unfoldable pub short_at : List ℕ → Read TplKind (Option ℕ)
short_at t =
    let n = prefix_len is_digit t in
    if n == 0 then Ok (None, t) else if nat_lt 5 n then Err (Syntax, length (drop 5 t)) else Ok (Some (digits_value (take n t)), drop n t)

-- a precision from its point on, where one stands; the end of the text behind the point stands in the place of the type
unfoldable pub precision_at : List ℕ → Read TplKind (Option ℕ)
precision_at t =
    if is_at 46 t then
    (if length (drop 1 t) == 0 then Err (TypeLetter, 0)
    else if prefix_len is_digit (drop 1 t) == 0 then Err (Syntax, length (drop 1 t))
    else short_at (drop 1 t))
    else Ok (None, t)

-- the type of a letter
abbrev pub kind_of : ℕ → Option Kind
kind_of b =
    if b == 100 || b == 105 || b == 117 then Some Integer
    else if b == 111 then Some Octal
    else if b == 120 then Some LowerHex
    else if b == 88 then Some UpperHex
    else if b == 102 || b == 70 then Some Decimal
    else if b == 115 then Some Text
    else if b == 66 then Some Bytes
    else if b == 106 then Some Json
    else if b == 104 then Some Html
    else if b == 108 then Some Items
    else if b == 113 then Some Quoted
    else if b == 68 then Some Suffixed
    else if b == 83 then Some Sanitized
    else if b == 85 then Some Unicode
    else None

-- a length, which has no effect
abbrev pub is_length : ℕ → Bool
is_length b = b == 104 || b == 108 || b == 76

-- the type of the letter that stands first
abbrev pub first_kind : List ℕ → Option Kind
first_kind [] = None
first_kind (b ∷ bs) = kind_of b

-- whether a length stands first
abbrev pub begins_length : List ℕ → Bool
begins_length [] = false
begins_length (b ∷ bs) = is_length b

-- what stands behind a length, where one stands before a type
abbrev pub behind_length : List ℕ → List ℕ
behind_length t = if begins_length t && is_some (first_kind (drop 1 t)) then drop 1 t else t

-- the type of the first letter, where it is one; a letter that is none, and the end of the text, is a fault of the type, another byte is out of place
abbrev pub type_by : List ℕ → Option Kind → Read TplKind Kind
type_by t (Some kind) = Ok (kind, drop 1 t)
type_by [] None = Err (TypeLetter, 0)
type_by (b ∷ rest) None = if is_letter b then Err (TypeLetter, length (b ∷ rest)) else Err (Syntax, length (b ∷ rest))

-- a type, with the length before it
abbrev pub type_at : List ℕ → Read TplKind Kind
type_at t = type_by (behind_length t) (first_kind (behind_length t))

-- a conversion: flags, a width, a precision and a type
unfoldable pub conv_at : List ℕ → Read TplKind Conv
conv_at t = let n = prefix_len (in_class Flag) t in do
  width ← short_at (drop n t)
  precision ← precision_at width.1
  kind ← type_at precision.1
  Ok (record { flags = flags_of (take n t); width = width.0; precision = precision.0; kind = kind.0 }, kind.1)

-- whether a word, `)` and `s` stand at the front
abbrev pub is_bare : List ℕ → Bool
is_bare t = let behind = drop (prefix_len is_word_byte t) t in is_at 41 behind && is_at 115 (drop 1 behind)

-- a field behind its `%(`
unfoldable pub field_at : List ℕ → Read TplKind FieldView
field_at t = do
  exprs ← exprs_at t
  replacement ← replacement_at exprs.1
  rest ← mark_at Syntax 41 (default_of replacement.1).1
  conv ← conv_at rest
  Ok (record { exprs = exprs.0; replacement = replacement.0; default = (default_of replacement.1).0; conv = conv.0; is_bare = is_bare t }, conv.1)
