use Rattle.std.proofs.Common.{◌≡◌, ◌≤◌, ◌<◌, ◌*◌, ◌^◌, map, drop, unsigned_abs}
use Rattle.std.specs.Option.{option_and_then}
use Rattle.info_item.specs.Sums as spec
use Rattle.info_item.proofs.SumLemmas.{after}
use Rattle.info_item.proofs.sums.sum_of.Given as goal

-- the sum so far, and the numbers still to come
abbrev pub invariant-loop-part : goal.invariant-loop-part
invariant-loop-part l = record {
  rest : option_and_then (after l.sum) (spec.all_known (map (spec.measured l.measure) (map (λ f. f.now) (drop l.part-index l.part-items))))
      ≡ spec.sum_over l.measure (map (λ f. f.now) l.parts.items);
  few_whole : unsigned_abs l.sum.whole ≤ l.part-index * 2 ^ 63;
  few_carries : unsigned_abs l.sum.carries ≤ l.part-index;
  small : unsigned_abs l.sum.nano < 10 ^ 36;
}
