use Rattle.std.proofs.Common.{◌≡◌, ◌+◌, ◌≤◌, ◌++◌, map, vec_len, vec_capacity, length}
use Rattle.std.specs.Vec.Iter.{into_iter_items}
use Rattle.folder_base.specs.Memory.{world_of, line_world, numbers_of, line_numbers}
use Rattle.folder_base.proofs.memory_parts.make_parts.Given as goal

abbrev pub invariant-loop-line : goal.invariant-loop-line
invariant-loop-line l = record {
  made : map world_of l.parts.items ≡ map line_world l.yielded;
  numbers : map numbers_of l.parts.items ≡ map (line_numbers l.first) l.yielded;
  rest : l.yielded ++ into_iter_items l.line-iterator ≡ into_iter_items l.initial.line-iterator;
  room : vec_len l.parts + length (into_iter_items l.line-iterator) ≤ vec_capacity l.parts;
}
