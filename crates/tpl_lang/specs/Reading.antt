-- Templates, read from left to right to the first fault.
use Rattle.std.specs.Prelude.{◌≡◌, ℕ, List, [], ◌∷◌, take, drop, codes, Bool, true, false, not, ◌==◌, Result, Ok, Err, if◌then◌else◌}
use Rattle.std.specs.List.{prefix_len}
use Rattle.read_base.specs.Reads.{Or, Read, ◌>>=◌, placed, is_at, all_at}
use Rattle.tpl_lang.specs.declared.tpl_kind.TplKind.{TplKind}
use Rattle.tpl_lang.specs.declared.tpl_kind.TplKind.TheVariants as kinds
use Rattle.tpl_lang.specs.declared.fault.TplFault.{TplFault}
use Rattle.tpl_lang.specs.declared.fault.TplFault.TheVariants as faults
use Rattle.tpl_lang.specs.declared.template.Part.{Part}
use Rattle.tpl_lang.specs.declared.template.Part.TheVariants.{Literal, Field}
use Rattle.tpl_lang.specs.FieldReading.{field_at}

-- whether a byte is no percent sign
abbrev pub is_plain : ℕ → Bool
is_plain b = not (b == 37)

-- what begins with a percent sign: a field, `%%` for one sign, or a sign that stands for itself
unfoldable pub percent_at : List ℕ → Read TplKind Part
percent_at t =
    if is_at 40 t then (do
      field ← field_at (drop 1 t)
      Ok (Field field.0, field.1))
    else if is_at 37 t then Ok (Literal (codes "%"), drop 1 t)
    else Ok (Literal (codes "%"), t)

-- a piece of a template
unfoldable pub part_at : List ℕ → Read TplKind Part
part_at t = let n = prefix_len is_plain t in if is_at 37 t then percent_at (drop 1 t) else Ok (Literal (take n t), drop n t)

-- whether text is left
abbrev pub is_left : List ℕ → Bool
is_left [] = false
is_left (b ∷ bs) = true

-- all pieces of a template
unfoldable pub whole_at : List ℕ → Or TplKind (List Part)
whole_at t = all_at is_left part_at t >>= λ parts. Ok parts.0

-- the fault of a kind at a place: a brace and a step of 0 are out of place
abbrev pub fault_at : TplKind → ℕ → TplFault
fault_at kinds.Syntax at = faults.Syntax at
fault_at kinds.Brace at = faults.Syntax at
fault_at kinds.Step at = faults.Syntax at
fault_at kinds.TypeLetter at = faults.TypeLetter at
fault_at kinds.Directive at = faults.Directive at

-- the template that a text is, or its first fault
abbrev pub template_of : List ℕ → Result (List Part) TplFault
template_of text = placed fault_at text (whole_at text)

-- the fault is that of the text; want of memory may come at any time
abbrev pub IsRefusal : Result (List Part) TplFault → TplFault → Type 0
IsRefusal outcome faults.OutOfMemory = Unit {0}
IsRefusal outcome (faults.Syntax at) = outcome ≡ Err (faults.Syntax at)
IsRefusal outcome (faults.TypeLetter at) = outcome ≡ Err (faults.TypeLetter at)
IsRefusal outcome (faults.Directive at) = outcome ≡ Err (faults.Directive at)
