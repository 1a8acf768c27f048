use Rattle.std.proofs.Common.{◌≡◌, ◌+◌, ◌≤◌, ◌++◌, map, vec_len, vec_capacity, length}
use Rattle.std.specs.Vec.Iter.{into_iter_items}
use Rattle.folder_base.specs.Places.{steps_in}
use Rattle.folder_base.proofs.places.take_steps.Given as goal

abbrev pub invariant-loop-place : goal.invariant-loop-place
invariant-loop-place l = record {
  taken : map (λ steps. steps.items) l.lists.items ≡ map (λ steps. steps.items) l.initial.lists.items ++ steps_in l.yielded;
  rest : l.yielded ++ into_iter_items l.place-iterator ≡ into_iter_items l.initial.place-iterator;
  room : vec_len l.lists + length (into_iter_items l.place-iterator) ≤ vec_capacity l.lists;
}
