-- Where the fault of a selector stands, what may stand before it, and which faults stay.
use Rattle.std.specs.Prelude.{◌≡◌, ℕ, ◌≤◌, List, [], ◌∷◌, ◌++◌, length, Bool, true, false, ◌||◌, ◌==◌, if◌then◌else◌, Option, Some, None, Ok}
use Rattle.sel_lang.specs.Plain.{Plain}
use Rattle.sel_lang.specs.Reading.{sel_of}
use Rattle.sel_lang.specs.declared.sel_kind.SelKind.{SelKind}
use Rattle.sel_lang.specs.declared.sel_kind.SelKind.TheVariants.{Syntax, Quote, Field, Value, Regex, Depth}
use Rattle.sel_lang.specs.declared.sel_fault.SelFault.{SelFault}
use Rattle.sel_lang.specs.declared.sel_fault.SelFault.TheVariants as faults

-- the place of a fault of the text
abbrev pub place_of : SelFault → Option ℕ
place_of (faults.Syntax at) = Some at
place_of (faults.Field at) = Some at
place_of (faults.Value at) = Some at
place_of (faults.Regex at) = Some at
place_of (faults.Depth at) = Some at
place_of faults.OutOfMemory = None

-- the text can go on so that it is accepted
abbrev pub IsOpen : List ℕ → Type 0
IsOpen text = (more : List ℕ) × (sel : Plain) × (sel_of (text ++ more) ≡ Ok sel)

-- the kinds of fault that the first bytes of a token settle: a token that is not allowed there, or a bracket too many; a quote without
-- its partner may find one later, and a field, a value or a pattern is judged as a whole
abbrev pub is_settled : SelKind → Bool
is_settled Syntax = true
is_settled Depth = true
is_settled Quote = false
is_settled Field = false
is_settled Value = false
is_settled Regex = false

-- how many bytes settle a fault that stands at this one: one, but an operator may go on behind `^`, `$`, `*` and `~`, and behind `!`
-- and one of these
abbrev pub settling_bytes : ℕ → ℕ
settling_bytes b = if b == 33 then 3 else if b == 94 || b == 36 || b == 42 || b == 126 then 2 else 1

-- so many bytes, or more
abbrev pub Settle : List ℕ → Type 0
Settle [] = ⊥
Settle (b ∷ bs) = settling_bytes b ≤ length (b ∷ bs)
