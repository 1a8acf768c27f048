use Rattle.std.proofs.lemmas.Bool.{ne_eqb}
use Rattle.text_base.proofs.DigitsLemmas.{has_nonzero_at}
use Rattle.text_base.proofs.num_value.has_nonzero.Goals as goal

pub returns-then-digit-ne48 : goal.returns-then-digit-ne48
returns-then-digit-ne48 c = has_nonzero_at c.args.digits.now c.loop-digit.digit-index c.requires c.loop-digit-test.true (ne_eqb _ 48 c.if-digit-ne48.true)
