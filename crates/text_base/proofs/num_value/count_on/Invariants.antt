use Rattle.std.proofs.Common.{◌≡◌, ◌^◌, take}
use Rattle.std.specs.Prelude.{min}
use Rattle.text_base.specs.Spelled.{counted_on}
use Rattle.text_base.proofs.num_value.count_on.Given as goal

-- the digits so far are counted, up to the end of all ranges
abbrev pub invariant-loop-digit : goal.invariant-loop-digit
invariant-loop-digit l = l.count ≡ min (counted_on l.initial.count (take l.digit-index l.digits)) (10 ^ 28)
