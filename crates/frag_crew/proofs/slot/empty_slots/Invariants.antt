use Rattle.std.proofs.Common.{◌≡◌, ◌+◌, ◌≤◌, ◌++◌, map, reverse, vec_len, vec_capacity}
use Rattle.frag_crew.proofs.slot.empty_slots.Given as goal

abbrev pub invariant-loop-slot : goal.invariant-loop-slot
invariant-loop-slot g l = record {
  lanes : map (λ s. s.lane) l.slots.items ++ reverse l.lanes.items ≡ map (λ s. s.lane) l.fn.slots.items;
  ends : map (λ s. s.end) l.slots.items ++ reverse l.ends.items ≡ map (λ s. s.end) l.fn.slots.items;
  room : vec_len l.lanes + vec_len l.slots ≤ vec_capacity l.lanes;
  room' : vec_len l.ends + vec_len l.slots ≤ vec_capacity l.ends;
}

abbrev pub decreases-loop-slot : goal.decreases-loop-slot
decreases-loop-slot g l = vec_len l.slots
