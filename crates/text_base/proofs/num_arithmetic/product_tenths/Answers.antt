use Rattle.std.proofs.Common.{◌*◌, ◌/◌, ◌%◌, ◌^◌, refl}
use Rattle.text_base.proofs.ProductLemmas.{quotient_in_halves, remainder_in_halves, capped_sum}
use Rattle.text_base.proofs.num_arithmetic.product_tenths.Goals as goal

pub returns-clause-count : goal.returns-clause-count
returns-clause-count c =
    rw (quotient_in_halves c.args.a c.args.b)
    (capped_sum ((c.args.a / 10 ^ 8) * c.args.b) (((c.args.a % 10 ^ 8) * c.args.b) / 10 ^ 8) c.saturating_mul-high.result c.saturating_add-tenths.result c.min.result c.saturating_mul-high.ensures c.saturating_add-tenths.ensures c.min.ensures)

pub returns-clause-cut : goal.returns-clause-cut
returns-clause-cut c = rw (remainder_in_halves c.args.a c.args.b) refl
