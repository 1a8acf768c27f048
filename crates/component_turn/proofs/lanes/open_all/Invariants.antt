use Rattle.std.proofs.Common.{◌≡◌, ◌≤◌, ◌+◌, [], ◌++◌, map, length, take, vec_capacity}
use Rattle.std.specs.Prelude.{IfNone, IfSome}
use Rattle.std.specs.Vec.Iter.{into_iter_items}
use Rattle.keep_store.specs.Seen.{lane_seen}
use Rattle.component_turn.specs.Lanes.{AllTried, WasRefused}
use Rattle.component_turn.proofs.lanes.open_all.Given as goal

abbrev pub invariant-loop-part : goal.invariant-loop-part
invariant-loop-part g l = record {
  tried : AllTried 0 (take (length l.yielded) l.stems.items) (map g.F.Folder.world l.yielded) (map lane_seen l.lanes.items) (map g.F.Folder.world l.left.items);
  why : IfSome l.refusal (λ fault. WasRefused fault (take (length l.yielded) l.stems.items) (map g.F.Folder.world l.yielded) (map (λ lane. (lane_seen lane).world) l.lanes.items ++ map g.F.Folder.world l.left.items));
  all : IfNone l.refusal (l.left.items ≡ []);
  many : length l.lanes.items + length l.left.items ≡ length l.yielded;
  at : l.at ≡ length l.yielded;
  rest : l.yielded ++ into_iter_items l.part-iterator ≡ into_iter_items l.initial.part-iterator;
  room : length l.yielded + length (into_iter_items l.part-iterator) ≤ vec_capacity l.lanes;
  left_room : length l.yielded + length (into_iter_items l.part-iterator) ≤ vec_capacity l.left;
  kept : vec_capacity l.left ≡ vec_capacity l.initial.left;
}
