-- The text that a field prints, and of a template the whole.
use Rattle.std.specs.Prelude.{ℕ, List, [], ◌∷◌, ◌++◌, ◌-◌, ◌/◌, length, replicate, flat_map, codes, Bool, true, false, ◌&&◌, if◌then◌else◌, nat_le, Option, Some, None, pos, negsuc}
use Rattle.std.specs.Option.{option_map, option_and_then, option_or, unwrap_or}
use Rattle.std.specs.Str.{chars, bytes_eq}
use Rattle.text_base.specs.Number.{Number, whole, decimal}
use Rattle.info_tree.specs.Tree.{Tree, null, truth, number, text, list, mapping}
use Rattle.name_text.specs.Clean.{cleaned as clean_of}
use Rattle.tpl_lang.specs.Exprs.{ExprView}
use Rattle.tpl_lang.specs.Fields.{FieldView}
use Rattle.tpl_lang.specs.declared.replacement.Align.{Align}
use Rattle.tpl_lang.specs.declared.replacement.Align.TheVariants.{Left, Right, Center}
use Rattle.tpl_lang.specs.declared.replacement.ReplacementPart.{ReplacementPart}
use Rattle.tpl_lang.specs.declared.replacement.ReplacementPart.TheVariants.{Text as Written, Value}
use Rattle.tpl_lang.specs.declared.template.Part.{Part}
use Rattle.tpl_lang.specs.declared.template.Part.TheVariants.{Literal, Field}
use Rattle.tpl_eval.specs.declared.marks.Clean.{Clean}
use Rattle.tpl_eval.specs.declared.marks.Clean.TheVariants.{Plain, Names, Restricted}
use Rattle.field_text.specs.Numbers.{integer_text}
use Rattle.field_text.specs.Plain.{plain_text}
use Rattle.field_text.specs.declared.numbers.IntegerForm.{IntegerForm}
use Rattle.field_text.specs.declared.radix.Radix.TheVariants.{Decimal}
use Rattle.field_text.specs.declared.sign.Sign.TheVariants.{Minus}
use Rattle.tpl_eval.specs.Convert.{converted}
use Rattle.tpl_eval.specs.Value.{first_value}

-- the most bytes that a text, or the text of a field, may have
abbrev pub most_bytes : ℕ
most_bytes = 16777216

-- so many spaces
abbrev pub spaces : ℕ → List ℕ
spaces n = replicate n 32

-- how many of the spaces beside a text stand before it; in the middle an odd one stands behind
abbrev pub before : Align → ℕ → ℕ
before Left room = 0
before Right room = room
before Center room = room / 2

-- a text with spaces beside it, to so many characters
abbrev pub aligned : Align → ℕ → List ℕ → List ℕ
aligned align width s =
    let room = width - length (chars s) in spaces (before align room) ++ s ++ spaces (room - before align room)

-- a part of a replacement, in which the value's plain text stands
abbrev pub replacement_part : List ℕ → ReplacementPart → List ℕ
replacement_part s (Written t) = t
replacement_part s (Value align width) = aligned align width s

-- a replacement's text
abbrev pub replacement_text : List ℕ → List ReplacementPart → List ℕ
replacement_text s parts = flat_map (replacement_part s) parts

-- the value that is converted: a replacement's text, where there is one
abbrev pub replaced : Option (List ReplacementPart) → Tree → Tree
replaced None value = value
replaced (Some parts) value = text (replacement_text (plain_text value) parts)

-- how a count is printed: with at least five digits
abbrev pub count_form : IntegerForm
count_form = record { radix = Decimal; sign = Minus; prefixed = false; least = 5; width = 0 }

-- a count, where the number is whole and not negative
abbrev pub counted_number : Number → Option (List ℕ)
counted_number (whole (pos n)) = Some (integer_text count_form (whole (pos n)))
counted_number (whole (negsuc n)) = None
counted_number (decimal n) = None

-- a count, where the value is one
abbrev pub counted : Tree → Option (List ℕ)
counted null = None
counted (truth b) = None
counted (number n) = counted_number n
counted (text s) = None
counted (list ts) = None
counted (mapping ps) = None

-- whether the only expression's word is `autonumber`
abbrev pub names_count : List ExprView → Bool
names_count [] = false
names_count (e ∷ []) = bytes_eq e.path.word (codes "autonumber")
names_count (e ∷ f ∷ es) = false

-- whether a field is exactly `%(autonumber)s`
abbrev pub is_count : FieldView → Bool
is_count f = f.is_bare && names_count f.exprs

-- the text of a value by a field's conversion, before it is cleaned; `None` where it is refused
abbrev pub converted_by : FieldView → Tree → Option (List ℕ)
converted_by f value = option_or (if is_count f then counted value else None) (converted f.conv (replaced f.replacement value))

-- the text of a field's value, before it is cleaned; `None` where there is no value, or it is refused
abbrev pub value_text : Tree → FieldView → Option (List ℕ)
value_text t f = option_and_then (converted_by f) (first_value t f.exprs)

-- a text, where it has not too many bytes
abbrev pub within : List ℕ → Option (List ℕ)
within s = if nat_le (length s) most_bytes then Some s else None

-- a text as it goes into the whole
abbrev pub cleaned : Clean → List ℕ → List ℕ
cleaned Plain s = s
cleaned Names s = clean_of false s
cleaned Restricted s = clean_of true s

-- a value's text as it goes into the whole; none where it is too long before it is cleaned
abbrev pub value_field : Clean → List ℕ → Option (List ℕ)
value_field clean s = option_map (cleaned clean) (within s)

-- the default, or else the placeholder, as it is
abbrev pub default_field : List ℕ → Option (List ℕ) → Option (List ℕ)
default_field na default = within (unwrap_or default na)

-- what a field prints where its value has this text, or none
abbrev pub field_by : List ℕ → Clean → Option (List ℕ) → Option (List ℕ) → Option (List ℕ)
field_by na clean default None = default_field na default
field_by na clean default (Some s) = value_field clean s

-- the text of a field: its value's, cleaned, or else its default, or else the placeholder; none where it is too long
abbrev pub field_text : Tree → List ℕ → Clean → FieldView → Option (List ℕ)
field_text t na clean f = field_by na clean f.default (value_text t f)

-- the text of a part
abbrev pub part_text : Tree → List ℕ → Clean → Part → Option (List ℕ)
part_text t na clean (Literal s) = Some s
part_text t na clean (Field f) = field_text t na clean f
