use Rattle.std.proofs.Common.{ℕ, ◌+◌, ◌++◌, [], ◌∷◌, List, Bool, get_or, false, take, set, sym, ap, ◌∙◌, arith}
use mathlib.Core.Logic.{dite}
use native.Mathlib.Decide.{ℕ_discrete}
use Rattle.claim_crew.proofs.SumLemmas.{take_snoc, unset, unset_at}
use Rattle.claim_crew.proofs.claims.collect.Goals as goal

pub loop-at-preserved : goal.loop-at-preserved
loop-at-preserved g c =
    let i = c.loop-at.invariant in
    let t = c.take.ensures in
    let at = c.loop-at.at in
    let was = c.loop-at.closed.slots.filled in
    let now = c.take.new.self.slots.filled in
    record {
      filled = λ k lo hi. ap (λ (l : List Bool). get_or l k false) t.others.1 ∙ (unset was at k (λ e. omega (arith, e, lo)) ∙ i.filled k (omega (arith, lo)) (omega (arith, hi, t.others.2)));
      moved = λ k lo. dite (ℕ_discrete k at)
          (λ e. ap (λ (l : List Bool). get_or l k false) t.others.1 ∙ (ap (λ (j : ℕ). get_or (set was at false) j false) e ∙ unset_at was at))
          (λ ne. ap (λ (l : List Bool). get_or l k false) t.others.1 ∙ (unset was at k ne ∙ i.moved k (omega (arith, lo, ne))));
      within = omega (arith, c.loop-at-test.true, i.count, t.others.2);
      count = i.count ∙ sym t.others.2;
      same = (t.others.0 ∙ i.same.0, t.others.2 ∙ i.same.1);
      items = c.push_reserved.ensures.items ∙ (ap (λ l. l ++ c.take.result ∷ []) i.items ∙ (take_snoc c.loop-at.closed.slots.items at c.take.result t.value ∙ ap (take (at + 1)) (sym t.others.0)));
      room = c.push_reserved.ensures.capacity ∙ i.room;
    }
