use Rattle.field_text.proofs.DigitLemmas.{power_is_some}
use Rattle.field_text.proofs.numbers.rounded.Goals as goal

pub nonzero_div-whole : goal.nonzero_div-whole
nonzero_div-whole c = power_is_some _ c.pow-unit.result c.pow-unit.ensures

pub nonzero_rem-rest : goal.nonzero_rem-rest
nonzero_rem-rest c = power_is_some _ c.pow-unit.result c.pow-unit.ensures
