use Rattle.std.proofs.Common.{◌≡◌, ◌*◌, ◌-◌, ◌^◌, Some, sym, ap, ◌∙◌}
use Rattle.std.specs.Prelude.{min}
use Rattle.text_base.specs.Value.{digits_value}
use Rattle.text_base.specs.Size.{factor_of}
use Rattle.text_base.proofs.SizeLemmas.{capped_factor, same_whole}
use Rattle.text_base.proofs.size.whole_size.Goals as goal

pub returns : goal.returns
returns c =
    let k = c.in_ok-factor.factor in
    let n = digits_value c.args.int.now in
    let f : factor_of c.args.base c.args.unit.now ≡ Some k = sym c.factor.ensures ∙ c.in_ok-factor.was in
    let r = c.saturating_mul.ensures ∙ ap (λ x. min (x * k) (2 ^ 128 - 1)) c.count_on.ensures in
    rw f (c.whole.ensures ∙ same_whole c.saturating_mul.result (n * k) (capped_factor n k c.saturating_mul.result r))
