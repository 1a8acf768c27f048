-- Filters, read behind their bracket from left to right: field, operator, `?`, value, `]`, with spaces between them.
use Rattle.std.specs.Prelude.{ℕ, List, [], ◌∷◌, length, drop, Bool, true, false, ◌||◌, ◌&&◌, ◌==◌, find, if◌then◌else◌, Option, Some, None, Ok, Err}
use Rattle.std.specs.Option.{option_map}
use Rattle.std.specs.Str.{bytes_eq}
use Rattle.text_base.specs.Number.{Number}
use Rattle.text_base.specs.Size.{size_of}
use Rattle.text_base.specs.Fields.{num_key, text_key}
use Rattle.text_base.specs.declared.fields.NumField.{NumField}
use Rattle.text_base.specs.declared.fields.NumField.TheVariants.{Filesize, FilesizeApprox, Width, Height, AspectRatio, Tbr, Abr, Vbr, Asr, Fps, AudioChannels, StretchedRatio}
use Rattle.text_base.specs.declared.fields.TextField.{TextField}
use Rattle.text_base.specs.declared.fields.TextField.TheVariants.{Url, Ext, Acodec, Vcodec, Container, Protocol, Language, DynamicRange, FormatId, Format, FormatNote, Resolution}
use Rattle.text_pattern.specs.Patterns.{is_pattern}
use Rattle.read_base.specs.Reads.{◌>>=◌, Read, skip, is_at, run_at}
use Rattle.sel_lang.specs.Marks.{is_field_byte, is_value_byte}
use Rattle.sel_lang.specs.Plain.{PlainFilter, num, text}
use Rattle.sel_lang.specs.declared.filter.NumOp.{NumOp}
use Rattle.sel_lang.specs.declared.filter.NumOp.TheVariants as nums
use Rattle.sel_lang.specs.declared.filter.TextOp.{TextOp}
use Rattle.sel_lang.specs.declared.filter.TextOp.TheVariants as texts
use Rattle.sel_lang.specs.declared.field_name.FieldName.{FieldName}
use Rattle.sel_lang.specs.declared.field_name.FieldName.TheVariants as names
use Rattle.sel_lang.specs.declared.sel_kind.SelKind.{SelKind}
use Rattle.sel_lang.specs.declared.sel_kind.SelKind.TheVariants.{Syntax, Quote, Field, Value, Regex}

-- ---- fields

-- the fields of numbers that a filter may name
abbrev pub num_fields : List NumField
num_fields =
    Filesize ∷ FilesizeApprox ∷ Width ∷ Height ∷ AspectRatio ∷ Tbr ∷ Abr ∷ Vbr ∷ Asr ∷ Fps ∷ AudioChannels ∷ StretchedRatio ∷ []

-- the fields of texts
abbrev pub text_fields : List TextField
text_fields =
    Url ∷ Ext ∷ Acodec ∷ Vcodec ∷ Container ∷ Protocol ∷ Language ∷ DynamicRange ∷ FormatId ∷ Format ∷ FormatNote ∷ Resolution ∷ []

-- the field of numbers of this name
abbrev pub num_named : List ℕ → Option NumField
num_named word = find (λ f. bytes_eq (num_key f) word) num_fields

-- the field of texts of this name
abbrev pub text_named : List ℕ → Option TextField
text_named word = find (λ f. bytes_eq (text_key f) word) text_fields

-- a field of numbers, or else one of texts
abbrev pub num_or_text : Option NumField → Option TextField → Option FieldName
num_or_text (Some f) g = Some (names.Num f)
num_or_text None g = option_map (λ f. names.Text f) g

-- the field of this name
unfoldable pub field_named : List ℕ → Option FieldName
field_named word = num_or_text (num_named word) (text_named word)

-- a value that was found, or else a fault at the front of t
abbrev pub found : {A : Type 0} → SelKind → List ℕ → Option A → List ℕ → Read SelKind A
found kind t (Some x) rest = Ok (x, rest)
found kind t None rest = Err (kind, length t)

-- a field: a run of letters, digits and `_` that is known
unfoldable pub field_at : List ℕ → Read SelKind FieldName
field_at t = do
  word ← run_at Syntax is_field_byte t
  found Field t (field_named word.0) word.1

-- ---- operators

-- the operator with `=` behind it, or without
abbrev pub or_equal : NumOp → NumOp → List ℕ → NumOp × List ℕ
or_equal with without t = if is_at 61 t then (with, drop 1 t) else (without, t)

-- `<`, `<=`, `>`, `>=`, `=` or `!=`
unfoldable pub num_op_at : List ℕ → Read SelKind NumOp
num_op_at t =
    if is_at 60 t then Ok (or_equal nums.Le nums.Lt (drop 1 t))
    else if is_at 62 t then Ok (or_equal nums.Ge nums.Gt (drop 1 t))
    else if is_at 61 t then Ok (nums.Eq, drop 1 t)
    else if is_at 33 t && is_at 61 (drop 1 t) then Ok (nums.Ne, drop 1 (drop 1 t))
    else Err (Syntax, length t)

-- the mark before `=`: `^`, `$`, `*` or `~`
unfoldable pub op_mark : List ℕ → Option (TextOp × List ℕ)
op_mark t =
    if is_at 94 t then Some (texts.Prefix, drop 1 t)
    else if is_at 36 t then Some (texts.Suffix, drop 1 t)
    else if is_at 42 t then Some (texts.Contains, drop 1 t)
    else if is_at 126 t then Some (texts.Matches, drop 1 t)
    else None

-- an operator before its `=`
abbrev pub with_equal : Option (TextOp × List ℕ) → Option (TextOp × List ℕ)
with_equal (Some op) = if is_at 61 op.1 then Some (op.0, drop 1 op.1) else None
with_equal None = None

-- `=`, or a mark and `=`
unfoldable pub plain_op : List ℕ → Option (TextOp × List ℕ)
plain_op t = if is_at 61 t then Some (texts.Eq, drop 1 t) else with_equal (op_mark t)

-- an operator, and whether `!` stands before it; without one the fault is at the front of t
abbrev pub negated_op : List ℕ → Bool → Option (TextOp × List ℕ) → Read SelKind (TextOp × Bool)
negated_op t negated (Some op) = Ok ((op.0, negated), op.1)
negated_op t negated None = Err (Syntax, length t)

-- an operator of texts, which is one token with its `!`
unfoldable pub text_op_at : List ℕ → Read SelKind (TextOp × Bool)
text_op_at t = if is_at 33 t then negated_op t true (plain_op (drop 1 t)) else negated_op t false (plain_op t)

-- ---- `?`

-- whether `?` is the next token, which is then always the mark
abbrev pub has_mark : List ℕ → Bool
has_mark t = is_at 63 (skip t)

-- what stands behind the mark, where it stands
abbrev pub behind_mark : List ℕ → List ℕ
behind_mark t = if has_mark t then drop 1 (skip t) else t

-- a value, and whether the mark stands before it
unfoldable pub marked_at : {A : Type 0} → (List ℕ → Read SelKind A) → List ℕ → Read SelKind (Bool × A)
marked_at value t = do
  x ← value (behind_mark t)
  Ok ((has_mark t, x.0), x.1)

-- ---- values

-- the value of a field of numbers: a size with the base 1000
unfoldable pub num_value_at : List ℕ → Read SelKind Number
num_value_at t = do
  word ← run_at Syntax is_value_byte t
  found Value t (size_of 1000 word.0) word.1

-- a byte before what is read
abbrev pub put : ℕ → Option (List ℕ × List ℕ) → Option (List ℕ × List ℕ)
put b = option_map (λ x. (b ∷ x.0, x.1))

-- what stands up to the quote, and behind it; a backslash takes the next byte as it is
unfoldable pub unquoted : ℕ → Bool → List ℕ → Option (List ℕ × List ℕ)
unquoted quote as_is [] = None
unquoted quote true (b ∷ t) = put b (unquoted quote false t)
unquoted quote false (b ∷ t) =
    if b == quote then Some ([], t)
    else if b == 92 then unquoted quote true t
    else put b (unquoted quote false t)

-- what was read up to the partner of a quote; without one the fault stands at the quote
abbrev pub closed_quote : List ℕ → Option (List ℕ × List ℕ) → Read SelKind (List ℕ)
closed_quote t (Some x) = Ok x
closed_quote t None = Err (Quote, length t)

-- a value in quotes, or a run of bytes
unfoldable pub text_value_at : List ℕ → Read SelKind (List ℕ)
text_value_at t =
    if is_at 34 t then closed_quote t (unquoted 34 false (drop 1 t))
    else if is_at 39 t then closed_quote t (unquoted 39 false (drop 1 t))
    else run_at Syntax is_value_byte t

-- where a value starts: behind a quote
abbrev pub value_start : List ℕ → List ℕ
value_start t = if is_at 34 t || is_at 39 t then drop 1 t else t

-- whether the operator can have the value: `~=` needs a pattern
abbrev pub can_have : TextOp → List ℕ → Bool
can_have texts.Matches value = is_pattern value
can_have texts.Eq value = true
can_have texts.Prefix value = true
can_have texts.Suffix value = true
can_have texts.Contains value = true

-- the value that an operator compares with
unfoldable pub tested_at : TextOp → List ℕ → Read SelKind (List ℕ)
tested_at op t = do
  value ← text_value_at t
  if can_have op value.0 then Ok value else Err (Regex, length (value_start t))

-- ---- the whole

-- a filter that ends with `]`
abbrev pub ended : PlainFilter → List ℕ → Read SelKind PlainFilter
ended x t = if is_at 93 (skip t) then Ok (x, drop 1 (skip t)) else Err (Syntax, length (skip t))

-- what stands behind a field of numbers
unfoldable pub num_filter_at : NumField → List ℕ → Read SelKind PlainFilter
num_filter_at field t = do
  op ← num_op_at (skip t)
  value ← marked_at (λ u. num_value_at (skip u)) op.1
  ended (num (record { field = field; op = op.0; value = value.0.1; unknown = value.0.0 })) value.1

-- what stands behind a field of texts
unfoldable pub text_filter_at : TextField → List ℕ → Read SelKind PlainFilter
text_filter_at field t = do
  op ← text_op_at (skip t)
  value ← marked_at (λ u. tested_at op.0.0 (skip u)) op.1
  ended (text (record { field = field; op = op.0.0; negated = op.0.1; value = value.0.1; unknown = value.0.0 })) value.1

-- what stands behind a field
abbrev pub tail_at : FieldName → List ℕ → Read SelKind PlainFilter
tail_at (names.Num field) = num_filter_at field
tail_at (names.Text field) = text_filter_at field

-- a filter behind its bracket
unfoldable pub filter_at : List ℕ → Read SelKind PlainFilter
filter_at t = do
  field ← field_at (skip t)
  tail_at field.0 field.1
