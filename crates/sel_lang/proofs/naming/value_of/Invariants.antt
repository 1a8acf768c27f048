use Rattle.std.proofs.Common.{◌≡◌, ◌^◌, ◌-◌, ◌≤◌, take}
use Rattle.std.specs.Prelude.{min}
use Rattle.text_base.specs.Spelled.{counted_on}
use Rattle.sel_lang.proofs.naming.value_of.Given as goal

-- the digits so far are counted, up to the most
abbrev pub invariant-loop-digit : goal.invariant-loop-digit
invariant-loop-digit l = (l.value ≡ min (counted_on 0 (take l.digit-index l.digits)) (2 ^ 64 - 1)) × (l.value ≤ 2 ^ 64 - 1)
