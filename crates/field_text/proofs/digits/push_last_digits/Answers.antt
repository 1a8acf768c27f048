use Rattle.std.proofs.Common.{◌<◌, ◌%◌, ◌^◌, arith}
use Rattle.field_text.proofs.DigitLemmas.{left_by_power, power_is_some, nine_digits}
use Rattle.field_text.proofs.digits.push_last_digits.Goals as goal

pub nonzero_rem-n : goal.nonzero_rem-n
nonzero_rem-n c = power_is_some c.args.count c.pow-unit.result c.pow-unit.ensures

pub overflow_cast-n : goal.overflow_cast-n
overflow_cast-n c =
    let left = left_by_power c.args.n c.args.count c.pow-unit.result c.pow-unit.ensures in
    let small : c.args.n % c.pow-unit.result < 10 ^ 9 = nine_digits (c.args.n % c.pow-unit.result) c.args.count c.requires left in
    omega arith

pub push_padded-requires-clause-below : goal.push_padded-requires-clause-below
push_padded-requires-clause-below c = left_by_power c.args.n c.args.count c.pow-unit.result c.pow-unit.ensures
