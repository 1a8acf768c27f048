use Rattle.std.proofs.Common.{◌≡◌, ◌^◌, ◌-◌, ◌≤◌, take}
use Rattle.std.specs.Prelude.{min}
use Rattle.text_base.specs.Spelled.{counted_on}
use Rattle.word_list.proofs.numbers.count_of.Given as goal

-- the digits so far are counted, up to the most
abbrev pub invariant-loop-digit : goal.invariant-loop-digit
invariant-loop-digit l = (l.count ≡ min (counted_on 0 (take l.digit-index l.digits)) (2 ^ 64 - 1)) × (l.count ≤ 2 ^ 64 - 1)
