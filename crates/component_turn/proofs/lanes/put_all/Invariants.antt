use Rattle.std.proofs.Common.{◌≡◌, ◌≤◌, ◌+◌, ◌++◌, length, vec_capacity}
use Rattle.std.specs.Vec.Iter.{into_iter_items}
use Rattle.component_turn.proofs.lanes.put_all.Given as goal

abbrev pub invariant-loop-part : goal.invariant-loop-part
invariant-loop-part g l = record {
  put : l.back.items ≡ l.initial.back.items ++ l.yielded;
  rest : l.yielded ++ into_iter_items l.part-iterator ≡ into_iter_items l.initial.part-iterator;
  room : length l.back.items + length (into_iter_items l.part-iterator) ≤ vec_capacity l.back;
}
