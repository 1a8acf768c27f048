use Rattle.std.proofs.Common.{Some, ◌∙◌, ap, arith}
use Rattle.std.specs.Int.{w128}
use Rattle.std.proofs.lemmas.Int.{to_z-of_z, fits_signed_from_abs}
use Rattle.text_base.specs.Number.{decimal}
use Rattle.text_base.proofs.DecimalLemmas.{signed_size, decimal_some, decimal_past, decimal_far}
use Rattle.text_base.proofs.num_rounding.dec_from_tenths.Goals as goal

pub returns-then-tenths-ge-PAST : goal.returns-then-tenths-ge-PAST
returns-then-tenths-ge-PAST c n d a = decimal_far n d c.args.tenths a.divides a.count c.args.is_negative c.if-tenths-ge-PAST.true

pub returns-then-size-ge-DECIMAL_END : goal.returns-then-size-ge-DECIMAL_END
returns-then-size-ge-DECIMAL_END c n d a =
    let r = c.rounded-size.ensures n d a in
    decimal_past n d c.args.tenths a.divides a.count c.args.is_negative c.rounded-size.result c.if-tenths-ge-PAST.false r c.if-size-ge-DECIMAL_END.true

pub returns : goal.returns
returns c n d a =
    let r = c.rounded-size.ensures n d a in
    let f = fits_signed_from_abs w128 c.with_sign.result (rw c.with_sign.ensures (rw (signed_size c.args.is_negative c.rounded-size.result) (omega arith))) in
    ap (λ z. Some (decimal z)) (to_z-of_z w128 c.with_sign.result f ∙ c.with_sign.ensures)
    ∙ decimal_some n d c.args.tenths a.divides a.count c.args.is_negative c.rounded-size.result c.if-tenths-ge-PAST.false r c.if-size-ge-DECIMAL_END.false
