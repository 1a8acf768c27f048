use Rattle.std.proofs.Common.{◌≡◌, ◌<◌, ◌≤◌, ◌/◌, sym, ap, ◌∙◌, arith, inr}
use Rattle.name_text.proofs.SuffixLemmas.{next_power, stops_at_greatest, still_some}
use Rattle.name_text.proofs.suffix.scaled.Goals as goal

pub loop-power-preserved : goal.loop-power-preserved
loop-power-preserved c =
    let same : c.from-factor.result ≡ c.args.factor = c.from-factor.ensures in
    let reached : c.args.factor ≤ c.loop-power.count = rw same at c.if-factor-count.true in
    rw same record {
      few = omega arith;
      counted = ap (λ n. n / c.args.factor) (rw same at c.loop-power.invariant.counted) ∙ next_power c.args.size c.args.factor c.loop-power.power;
      reached = inr (still_some c.args.factor c.loop-power.count c.requires reached);
    }

pub returns-else-factor-count-clause-power : goal.returns-else-factor-count-clause-power
returns-else-factor-count-clause-power c =
    let same : c.from-factor.result ≡ c.args.factor = c.from-factor.ensures in
    let counted = rw same at c.loop-power.invariant.counted in
    let stops : c.loop-power.count < c.args.factor = rw same at c.if-factor-count.false in
    sym (stops_at_greatest c.args.factor c.requires c.args.size c.loop-power.count c.loop-power.power c.loop-power.invariant.few counted c.loop-power.invariant.reached (λ l. stops))
