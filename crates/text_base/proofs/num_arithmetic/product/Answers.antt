use Rattle.std.proofs.Common.{◌≡◌, ◌*◌, ◌/◌, ◌%◌, ◌∙◌, sym, ap, not, eqb, min, ◌^◌, lit<}
use Rattle.std.specs.Prelude.{unsigned_abs}
use Rattle.std.specs.Int.{w128}
use Rattle.std.proofs.lemmas.Int.{to_z-of_z}
use Rattle.text_base.proofs.ProductLemmas.{sign_of_factors, tenths_of_product, same_cut}
use Rattle.text_base.proofs.num_arithmetic.product.Goals as goal

pub returns : goal.returns
returns c =
    let a = c.args.a in
    let b = c.args.b in
    let n = unsigned_abs a * unsigned_abs b in
    let fa = to_z-of_z w128 a c.ranges.a in
    let fb = to_z-of_z w128 b c.ranges.b in
    let m : c.unsigned_abs.result * c.unsigned_abs-2.result ≡ n =
    ap (λ x. x * c.unsigned_abs-2.result) (c.unsigned_abs.ensures.value ∙ ap unsigned_abs fa) ∙ ap (λ x. unsigned_abs a * x) (c.unsigned_abs-2.ensures.value ∙ ap unsigned_abs fb) in
    let count : c.product_tenths-tenths.result.0 ≡ min ((10 * n) / 10 ^ 9) (10 ^ 28) =
    c.product_tenths-tenths.ensures.count ∙ (ap (λ x. min (x / 10 ^ 8) (10 ^ 28)) m ∙ ap (λ x. min x (10 ^ 28)) (sym (tenths_of_product n))) in
    let cut : c.product_tenths-tenths.result.1 ≡ not (eqb ((10 * n) % 10 ^ 9) 0) =
    c.product_tenths-tenths.ensures.cut ∙ (ap (λ x. not (eqb (x % 10 ^ 8) 0)) m ∙ same_cut n) in
    c.dec_from_tenths.ensures n (10 ^ 9) (record { divides = lit< tt; count = count; cut = cut })
    ∙ sign_of_factors fa fb
