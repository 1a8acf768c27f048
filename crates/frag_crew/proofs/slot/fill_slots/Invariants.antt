use Rattle.std.proofs.Common.{◌≡◌, ◌+◌, ◌≤◌, ◌++◌, map, reverse, vec_len, vec_capacity}
use Rattle.frag_crew.specs.Slots.{slot_before}
use Rattle.frag_crew.proofs.slot.fill_slots.Given as goal

abbrev pub invariant-loop-lane : goal.invariant-loop-lane
invariant-loop-lane g l = record {
  items : l.slots.items ++ map slot_before (reverse l.lanes.items) ≡ map slot_before l.fn.lanes.items;
  room : vec_len l.slots + vec_len l.lanes ≤ vec_capacity l.slots;
  same : vec_capacity l.lanes ≡ vec_capacity l.fn.lanes;
}

abbrev pub decreases-loop-lane : goal.decreases-loop-lane
decreases-loop-lane g l = vec_len l.lanes
