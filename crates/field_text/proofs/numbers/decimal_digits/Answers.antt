use Rattle.field_text.proofs.DigitLemmas.{power_is_some}
use Rattle.field_text.proofs.numbers.decimal_digits.Goals as goal

pub nonzero_div-count : goal.nonzero_div-count
nonzero_div-count c = power_is_some _ c.pow-unit.result c.pow-unit.ensures
