use Rattle.std.proofs.Common.{◌≡◌, take}
use Rattle.text_base.specs.Value.{digits_value}
use Rattle.text_base.proofs.num_value.has_nonzero.Given as goal

-- every digit so far is 0
abbrev pub invariant-loop-digit : goal.invariant-loop-digit
invariant-loop-digit l = digits_value (take l.digit-index l.digits) ≡ 0
