-- Where the fault of a template stands, and what may stand before it.
use Rattle.std.specs.Prelude.{◌≡◌, ℕ, List, length, Bool, true, false, ◌||◌, not, ◌==◌, Option, Some, None, Ok, Err, ◌⊎◌}
use Rattle.read_base.specs.Laws.{Settling}
use Rattle.tpl_lang.specs.declared.tpl_kind.TplKind.{TplKind}
use Rattle.tpl_lang.specs.declared.tpl_kind.TplKind.TheVariants as kinds
use Rattle.tpl_lang.specs.Bytes.{is_word_byte}
use Rattle.tpl_lang.specs.declared.fault.TplFault.{TplFault}
use Rattle.tpl_lang.specs.declared.fault.TplFault.TheVariants as faults
use Rattle.tpl_lang.specs.declared.template.Part.{Part}
use Rattle.tpl_lang.specs.Reading.{template_of}

-- the place of a fault of the text
abbrev pub place_of : TplFault → Option ℕ
place_of (faults.Syntax at) = Some at
place_of (faults.TypeLetter at) = Some at
place_of (faults.Directive at) = Some at
place_of faults.OutOfMemory = None

-- the text is accepted, or nothing is wrong in it but that it ends
abbrev pub IsOpen : List ℕ → Type 0
IsOpen text =
    ((parts : List Part) × (template_of text ≡ Ok parts))
    ⊎ ((fault : TplFault) × (template_of text ≡ Err fault) × (place_of fault ≡ Some (length text)))

-- a byte with which no word and no number goes on: none of a word, no `-` and no point
abbrev pub is_free : ℕ → Bool
is_free b = not (is_word_byte b || b == 45 || b == 46)

-- the kinds of fault that the byte at their place settles, with the two behind it
abbrev pub is_settled : TplKind → Bool
is_settled kinds.Syntax = true
is_settled kinds.Directive = true
is_settled kinds.Brace = false
is_settled kinds.Step = false
is_settled kinds.TypeLetter = false

-- three bytes settle a fault, the first of which is free
abbrev pub settling : Settling TplKind
settling = record { is_settled = is_settled; width = 3; first = is_free }
