-- How a selector is spelled, by cases: the grammar as it is written down.
use Rattle.std.specs.Prelude.{◌≡◌, ℕ, zero, suc, ◌<◌, List, [], ◌∷◌, ◌++◌, length, Bool, true, false, ◌==◌, Some, ◌⊎◌, codes, if◌then◌else◌}
use Rattle.text_base.specs.Number.{Number}
use Rattle.text_base.specs.Size.{size_of}
use Rattle.text_base.specs.declared.fields.NumField.{NumField}
use Rattle.text_base.specs.declared.fields.TextField.{TextField}
use Rattle.read_base.specs.Spelled.{AreAll, IsGap, Spaced, Behind, IsMore, Then}
use Rattle.sel_lang.specs.Plain.{Plain, PlainFilter, num, text, name, narrowed}
use Rattle.sel_lang.specs.Marks.{is_field_byte, is_name_byte, is_value_byte}
use Rattle.sel_lang.specs.Names.{pick_of, best}
use Rattle.sel_lang.specs.Filters.{field_named, has_mark, can_have}
use Rattle.sel_lang.specs.Reading.{mark_of, joined}
use Rattle.sel_lang.specs.declared.filter.NumOp.{NumOp}
use Rattle.sel_lang.specs.declared.filter.NumOp.TheVariants as nums
use Rattle.sel_lang.specs.declared.filter.TextOp.{TextOp}
use Rattle.sel_lang.specs.declared.filter.TextOp.TheVariants as texts
use Rattle.sel_lang.specs.declared.field_name.FieldName.{FieldName}
use Rattle.sel_lang.specs.declared.field_name.FieldName.TheVariants as names
use Rattle.sel_lang.specs.declared.joint.Joint.{Joint}
use Rattle.sel_lang.specs.declared.joint.Joint.TheVariants.{Comma, Slash, Plus}

-- one byte or more, each of which passes the test
abbrev pub IsRun : (ℕ → Bool) → List ℕ → List ℕ → Type 0
IsRun p s word = (s ≡ word) × (0 < length s) × AreAll p s

-- ---- filters

-- the name of a field
abbrev pub IsField : List ℕ → FieldName → Type 0
IsField s field = (0 < length s) × AreAll is_field_byte s × (field_named s ≡ Some field)

-- an operator of numbers
abbrev pub num_op_text : NumOp → List ℕ
num_op_text nums.Lt = codes "<"
num_op_text nums.Le = codes "<="
num_op_text nums.Gt = codes ">"
num_op_text nums.Ge = codes ">="
num_op_text nums.Eq = codes "="
num_op_text nums.Ne = codes "!="

-- an operator of texts without `!`
abbrev pub plain_op_text : TextOp → List ℕ
plain_op_text texts.Eq = codes "="
plain_op_text texts.Prefix = codes "^="
plain_op_text texts.Suffix = codes "$="
plain_op_text texts.Contains = codes "*="
plain_op_text texts.Matches = codes "~="

-- an operator of texts, with `!` where it is negated
abbrev pub text_op_text : TextOp × Bool → List ℕ
text_op_text op = if op.1 then 33 ∷ plain_op_text op.0 else plain_op_text op.0

-- a value behind `?`, or one before which no `?` stands
abbrev pub MarkedBy : {A : Type 0} → (List ℕ → A → Type 0) → List ℕ → A → Bool → Type 0
MarkedBy P s value true = (gap rest : List ℕ) × IsGap gap × P rest value × (s ≡ gap ++ 63 ∷ rest)
MarkedBy P s value false = P s value × (has_mark s ≡ false)

-- a value, and whether `?` stands before it
abbrev pub IsMarked : {A : Type 0} → (List ℕ → A → Type 0) → List ℕ → Bool × A → Type 0
IsMarked P s value = MarkedBy P s value.1 value.0

-- a size, in a run without `]`, quotes and spaces
abbrev pub IsNumValue : List ℕ → Number → Type 0
IsNumValue s value = (0 < length s) × AreAll is_value_byte s × (size_of 1000 s ≡ Some value)

-- what stands between quotes: each byte as it is, or behind a backslash, as the quote and a backslash have to be
abbrev pub IsBody : ℕ → List ℕ → List ℕ → Type 0
IsBody quote s [] = s ≡ []
IsBody quote s (b ∷ value) =
    (rest : List ℕ) × IsBody quote rest value
    × (((s ≡ b ∷ rest) × ((b == quote) ≡ false) × ((b == 92) ≡ false)) ⊎ (s ≡ 92 ∷ b ∷ rest))

-- a value between two quotes
abbrev pub IsQuoted : ℕ → List ℕ → List ℕ → Type 0
IsQuoted quote s value = (body : List ℕ) × IsBody quote body value × (s ≡ quote ∷ (body ++ quote ∷ []))

-- a value of a field of texts: a pattern where the operator needs one
abbrev pub IsTextValue : TextOp → List ℕ → List ℕ → Type 0
IsTextValue op s value =
    (IsQuoted 34 s value ⊎ (IsQuoted 39 s value ⊎ IsRun is_value_byte s value)) × (can_have op value ≡ true)

-- `]` behind spaces
abbrev pub IsEnd : PlainFilter → List ℕ → PlainFilter → Type 0
IsEnd x s y = (gap : List ℕ) × IsGap gap × (s ≡ gap ++ 93 ∷ []) × (y ≡ x)

-- op [ "?" ] value "]" of a field of numbers
abbrev pub IsNumFilter : NumField → List ℕ → PlainFilter → Type 0
IsNumFilter field =
    Then (Spaced (λ s op. s ≡ num_op_text op)) (λ op. Then (IsMarked (Spaced IsNumValue)) (λ value.
    IsEnd (num (record { field = field; op = op; value = value.1; unknown = value.0 }))))

-- op [ "?" ] value "]" of a field of texts
abbrev pub IsTextFilter : TextField → List ℕ → PlainFilter → Type 0
IsTextFilter field =
    Then (Spaced (λ s op. s ≡ text_op_text op)) (λ op. Then (IsMarked (Spaced (IsTextValue op.0))) (λ value.
    IsEnd (text (record { field = field; op = op.0; negated = op.1; value = value.1; unknown = value.0 }))))

-- what stands behind a field
abbrev pub IsTail : FieldName → List ℕ → PlainFilter → Type 0
IsTail (names.Num field) = IsNumFilter field
IsTail (names.Text field) = IsTextFilter field

-- field op [ "?" ] value "]"
abbrev pub IsFilter : List ℕ → PlainFilter → Type 0
IsFilter = Then (Spaced IsField) IsTail

-- ---- selectors

-- *( "[" filter ), behind what the filters narrow
abbrev pub IsFiltered : Plain → List ℕ → Plain → Type 0
IsFiltered y s x = (fs : List PlainFilter) × IsMore (Spaced (Behind 91 IsFilter)) s fs × (x ≡ narrowed y fs)

-- name *filter
abbrev pub IsNamed : List ℕ → Plain → Type 0
IsNamed = Then (IsRun is_name_byte) (λ word. IsFiltered (name (pick_of word)))

-- 1*filter
abbrev pub IsBest : List ℕ → Plain → Type 0
IsBest s x = (f : PlainFilter) × (fs : List PlainFilter) × IsMore (Spaced (Behind 91 IsFilter)) s (f ∷ fs) × (x ≡ narrowed (name best) (f ∷ fs))

-- "(" spec ")" *filter
abbrev pub IsGrouped : (List ℕ → Plain → Type 0) → List ℕ → Plain → Type 0
IsGrouped Spec s x =
    (inner gap rest : List ℕ) × (y : Plain) × Spec inner y × IsGap gap × IsFiltered y rest x × (s ≡ 40 ∷ (inner ++ (gap ++ 41 ∷ rest)))

-- name *filter / 1*filter / "(" spec ")" *filter
abbrev pub IsAtomOver : (List ℕ → Plain → Type 0) → List ℕ → Plain → Type 0
IsAtomOver Spec s x = IsNamed s x ⊎ (IsBest s x ⊎ IsGrouped Spec s x)

-- operand *( mark operand )
abbrev pub IsJoined : Joint → (List ℕ → Plain → Type 0) → List ℕ → Plain → Type 0
IsJoined joint P s x =
    (one others : List ℕ) × (y : Plain) × (ys : List Plain)
    × P one y × IsMore (Spaced (Behind (mark_of joint) P)) others ys × (s ≡ one ++ others) × (x ≡ joined joint y ys)

-- alts *( "," alts ), alts being merge *( "/" merge ), merge being atom *( "+" atom )
abbrev pub IsSpecOver : (List ℕ → Plain → Type 0) → List ℕ → Plain → Type 0
IsSpecOver Atom = IsJoined Comma (IsJoined Slash (IsJoined Plus Atom))

-- an atom behind spaces in which groups nest no deeper than the number
abbrev pub IsAtom : ℕ → List ℕ → Plain → Type 0
IsAtom zero = Spaced (IsAtomOver (λ s x. ⊥))
IsAtom (suc groups) = Spaced (IsAtomOver (IsSpecOver (IsAtom groups)))

-- a text spells a selector: a spec in which groups nest at most 64 deep, and spaces
abbrev pub IsSpelled : List ℕ → Plain → Type 0
IsSpelled s x = (spec gap : List ℕ) × IsSpecOver (IsAtom 64) spec x × IsGap gap × (s ≡ spec ++ gap)
