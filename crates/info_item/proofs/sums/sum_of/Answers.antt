use Rattle.std.proofs.Common.{◌≡◌, ◌+◌, ◌<◌, ◌∷◌, length, map, drop, ap, sym, ◌∙◌, arith, Bor}
use Rattle.std.specs.Prelude.{Option, Some}
use Rattle.text_base.specs.Number.{Number, number_of}
use Rattle.info_item.specs.declared.format.Format.{Format}
use Rattle.info_item.specs.Sums as spec
use Rattle.info_item.proofs.PartLemmas.{map-next}
use Rattle.info_item.proofs.SumLemmas.{sum-step}
use Rattle.info_item.proofs.sums.sum_of.Goals as goal

pub loop-part-preserved : goal.loop-part-preserved
loop-part-preserved c =
    let i = c.loop-part.part-index in
    let items = c.deref-part-items.result.now in
    let m = c.args.measure in
    let now : Bor Format → Format = λ f. f.now in
    let number : Number = number_of c.in-Some.num in
    let low : i < length items = omega (arith, c.loop-part-test.true) in
    let next : map now (drop i items) ≡ c.part-item.result.now ∷ map now (drop (i + 1) items) = map-next now items i c.part-item.result low c.part-item.is in
    let known : spec.measured m c.part-item.result.now ≡ Some number = sym c.in-Some.ensures in
    let all : map (spec.measured m) (map now (drop i items)) ≡ Some number ∷ map (spec.measured m) (map now (drop (i + 1) items)) =
    ap (map (spec.measured m)) next ∙ ap (λ (o : Option Number). o ∷ map (spec.measured m) (map now (drop (i + 1) items))) known in
    record {
      rest = sum-step c.loop-part.sum c.plus-sum.result number (map (spec.measured m) (map now (drop i items))) (map (spec.measured m) (map now (drop (i + 1) items)))
          (spec.sum_over m (map now c.args.parts.now.items)) all c.plus-sum.ensures c.loop-part.invariant.rest;
      few_whole = omega (arith, c.plus-sum.ensures.few_whole, c.loop-part.invariant.few_whole);
      few_carries = omega (arith, c.plus-sum.ensures.few_carries, c.loop-part.invariant.few_carries);
      small = c.plus-sum.ensures.small;
    }
