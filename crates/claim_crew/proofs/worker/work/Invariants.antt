use Rattle.std.proofs.Common.{◌≡◌, ◌≤◌, [], ◌-◌}
use Rattle.claim_crew.specs.Rule.{Did}
use Rattle.claim_crew.proofs.LogLemmas.{NoneFailed}
use Rattle.claim_crew.proofs.worker.work.Given as goal

abbrev pub invariant-loop-count : goal.invariant-loop-count
invariant-loop-count g l = record {
  same : (l.seat.table_id ≡ l.fn.seat.table_id) × (l.seat.id ≡ l.fn.seat.id);
  start : l.seat.me.0.start ≡ l.fn.seat.me.0.start;
  next_in : l.next ≤ l.count;
  drawn_below : l.seat.me.0.drawn_below ≡ l.next;
  workers : l.seat.me.0.workers ≡ 1;
  misses : l.seat.me.0.misses ≡ 0;
  free : l.seat.me.0.claimed ≡ [];
  none_out : l.seat.me.1 ≡ [];
  did : Did (g.W.Task.does l.task) l.seat.me.0.log l.fn.hand l.hand;
  going : NoneFailed g.W.Task.fails l.seat.me.0.log;
}

abbrev pub decreases-loop-count : goal.decreases-loop-count
decreases-loop-count g l = l.count - l.next
