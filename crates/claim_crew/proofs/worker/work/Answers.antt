use Rattle.std.proofs.Common.{◌≡◌, [], ◌∷◌, ◌++◌, true≢false, List, sym, ap, ◌∙◌, subst, arith}
use mathlib.Core.Option.{some}
use lib.ListN.{get_elem?}
use Rattle.claim_crew.specs.Rule.{Did, Entry}
use Rattle.claim_crew.proofs.LogLemmas.{ran_more, last_more, none_more}
use Rattle.claim_crew.proofs.worker.work.Goals as goal

pub process-requires-clause-held : goal.process-requires-clause-held
process-requires-clause-held g c =
    let i = c.loop-count.invariant in
    let d = c.draw-number.ensures.drew.1 (omega (arith, c.if-number-count.false, c.requires.slots.1)) in
    let x-at : get_elem? c.args.seat.now.me.0.start c.draw-number.result ≡ some d.0 = subst (λ (l : List g.row.T.Denot). get_elem? l c.draw-number.result ≡ some d.0) i.start d.1 in
    (d.0, (ap (λ m. m.0.claimed) d.2, ap (λ m. m.1) d.2 ∙ ap (λ l. (c.draw-number.result, d.0) ∷ l) i.none_out), c.requires.starts.can c.draw-number.result d.0 x-at)

pub returns-then-process-clause-done : goal.returns-then-process-clause-done
returns-then-process-clause-done g c =
    let i = c.loop-count.invariant in
    let d = c.draw-number.ensures.drew.1 (omega (arith, c.if-number-count.false, c.requires.slots.1)) in
    let s = c.process.ensures.processed in
    let n = c.draw-number.result in
    let log : c.process.new.seat.me.0.log ≡ c.loop-count.seat.me.0.log ++ (n, s.0, s.1) ∷ [] = ap (λ m. m.0.log) s.3 ∙ ap (λ m. m.0.log ++ (n, s.0, s.1) ∷ []) d.2 in
    record {
      workers_are = ap (λ m. m.0.workers) s.3 ∙ ap (λ m. m.0.workers) d.2 ∙ i.workers;
      is_finished = ap (λ m. m.0.finished) s.3 ∙ c.if-process.true;
      none_claimed = ap (λ m. m.0.claimed) s.3;
      none_out = ap (λ m. m.1) s.3;
      did = subst (λ (l : List (Entry g.row.T.Denot)). Did (g.W.Task.does c.args.task.now) l c.args.hand.now c.process.new.hand) (sym log) (ran_more (g.W.Task.does c.args.task.now) _ n s.0 s.1 _ _ _ i.did s.2);
      last = last_more g.W.Task.fails _ _ (n, s.0, s.1) i.going log;
    }

pub loop-count-preserved : goal.loop-count-preserved
loop-count-preserved g c =
    let i = c.loop-count.invariant in
    let d = c.draw-number.ensures.drew.1 (omega (arith, c.if-number-count.false, c.requires.slots.1)) in
    let s = c.process.ensures.processed in
    let n = c.draw-number.result in
    let log : c.process.new.seat.me.0.log ≡ c.loop-count.seat.me.0.log ++ (n, s.0, s.1) ∷ [] = ap (λ m. m.0.log) s.3 ∙ ap (λ m. m.0.log ++ (n, s.0, s.1) ∷ []) d.2 in
    record {
      same = (c.process.ensures.id.0 ∙ c.draw-number.ensures.id.0 ∙ i.same.0, c.process.ensures.id.1 ∙ c.draw-number.ensures.id.1 ∙ i.same.1);
      start = ap (λ m. m.0.start) s.3 ∙ ap (λ m. m.0.start) d.2 ∙ i.start;
      next_in = omega (arith, c.if-number-count.false);
      drawn_below = ap (λ m. m.0.drawn_below) s.3 ∙ ap (λ m. m.0.drawn_below) d.2;
      workers = ap (λ m. m.0.workers) s.3 ∙ ap (λ m. m.0.workers) d.2 ∙ i.workers;
      misses = ap (λ m. m.0.misses) s.3 ∙ ap (λ m. m.0.misses) d.2 ∙ i.misses;
      free = ap (λ m. m.0.claimed) s.3;
      none_out = ap (λ m. m.1) s.3;
      did = subst (λ (l : List (Entry g.row.T.Denot)). Did (g.W.Task.does c.args.task.now) l c.args.hand.now c.process.new.hand) (sym log) (ran_more (g.W.Task.does c.args.task.now) _ n s.0 s.1 _ _ _ i.did s.2);
      going = none_more g.W.Task.fails _ _ (n, s.0, s.1) i.going (λ bad. absurd (true≢false (sym (s.4 bad) ∙ c.if-process.false))) log;
    }
