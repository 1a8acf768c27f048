use Rattle.std.proofs.Common.{◌≡◌, ◌<◌, ◌++◌, ◌*◌, ◌-◌, ◌^◌, Some, length, sym, ap, ◌∙◌, arith}
use Rattle.std.specs.Prelude.{min}
use Rattle.std.proofs.lemmas.Bool.{eqb-false}
use Rattle.text_base.specs.Value.{digits_value}
use Rattle.text_base.specs.Size.{digits_behind, factor_of}
use Rattle.text_base.proofs.SizeLemmas.{capped_digits, capped_factor, same_decimal, point_size}
use Rattle.text_base.proofs.size.decimal_size.Goals as goal

pub returns : goal.returns
returns c =
    let k = c.in_ok-factor.factor in
    let int = c.args.int.now in
    let frac = c.split_digits.result.0.now in
    let n = digits_value (int ++ frac) * 10 ^ (9 - length frac) in
    let f : factor_of c.args.base (digits_behind c.args.behind.now) ≡ Some k =
    ap (factor_of c.args.base) (sym c.split_digits.ensures.behind) ∙ (sym c.factor.ensures ∙ c.in_ok-factor.was) in
    let z = capped_digits int frac (9 - length frac) c.count_on.result c.count_on-count.result c.append_zeros.result c.count_on.ensures c.count_on-count.ensures c.append_zeros.ensures in
    let r = c.saturating_mul.ensures ∙ ap (λ x. min (x * k) (2 ^ 128 - 1)) z in
    let e = eqb-false (length frac) 0 (sym c.is_empty.ensures ∙ c.if-is_empty.false) in
    let some : 0 < length frac = omega arith in
    let p = point_size c.args.base k int c.args.behind.now frac c.split_digits.ensures.front f some c.if-frac-gt-DECIMALS.false in
    c.decimal.ensures ∙ (same_decimal c.saturating_mul.result (n * k) (capped_factor n k c.saturating_mul.result r) ∙ sym p)
