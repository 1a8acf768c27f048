use Rattle.text_base.specs.Value.{numerator, denominator}
use Rattle.text_base.specs.Spelled.{spelled_parts}
use Rattle.text_base.proofs.num_value.decimal.Goals as goal

pub returns : goal.returns
returns c =
    let p = spelled_parts c.args.spelled.now in
    c.dec_from_tenths.ensures (numerator p) (denominator p) c.tenths-tenths.ensures
