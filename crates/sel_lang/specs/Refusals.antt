-- Which refusals are answered.
use Rattle.std.specs.Prelude.{◌≡◌, ℕ, List, false}
use Rattle.text_pattern.specs.declared.fault.PatternFault.{PatternFault}
use Rattle.text_pattern.specs.declared.fault.PatternFault.TheVariants as patterns
use Rattle.sel_lang.specs.declared.filter.TextOp.{TextOp}
use Rattle.sel_lang.specs.Filters.{can_have}

-- no pattern is answered only where the operator cannot have the value; memory may run out at any time
abbrev pub IsNoTest : TextOp → List ℕ → PatternFault → Type 0
IsNoTest op value patterns.NotPattern = can_have op value ≡ false
IsNoTest op value patterns.OutOfMemory = Unit {0}
