use Rattle.std.proofs.Common.{◌≡◌, ◌+◌, ◌*◌, ◌≤◌, false}
use Rattle.keep_store.specs.Seen.{lane_seen}
use Rattle.store_tests.proofs.lanes.take_each.Given as goal

abbrev pub invariant-loop : goal.invariant-loop
invariant-loop g l = record {
  part : (lane_seen l.lane).complete ≡ false;
  size : (lane_seen l.lane).size ≤ (lane_seen l.fn.lane).size + 2097152 * l.counter;
}
