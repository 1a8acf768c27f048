use Rattle.std.proofs.Common.{◌≡◌, ◌≤◌, ◌+◌, ◌++◌, map, length, vec_capacity}
use Rattle.std.specs.Vec.Iter.{into_iter_items}
use Rattle.keep_store.specs.Seen.{lane_seen}
use Rattle.component_turn.proofs.lanes.close_all.Given as goal

abbrev pub invariant-loop-lane : goal.invariant-loop-lane
invariant-loop-lane g l = record {
  made : map g.F.Folder.world l.back.items ≡ map g.F.Folder.world l.initial.back.items ++ map (λ lane. (lane_seen lane).world) l.yielded;
  rest : l.yielded ++ into_iter_items l.lane-iterator ≡ into_iter_items l.initial.lane-iterator;
  kept : vec_capacity l.back ≡ vec_capacity l.initial.back;
  room : length l.back.items + length (into_iter_items l.lane-iterator) ≤ vec_capacity l.back;
}
