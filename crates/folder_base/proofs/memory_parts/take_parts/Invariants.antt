use Rattle.std.proofs.Common.{◌≡◌, ◌++◌, map}
use Rattle.std.specs.Vec.Iter.{into_iter_items}
use Rattle.folder_base.specs.Places.{steps_in}
use Rattle.folder_base.proofs.Gathering.{steps_of}
use Rattle.folder_base.proofs.memory_parts.take_parts.Given as goal

abbrev pub invariant-loop-part : goal.invariant-loop-part
invariant-loop-part l = record {
  line : l.content.line ≡ l.initial.content.line;
  taken : steps_in l.content.places.items ≡ steps_in l.initial.content.places.items ++ map steps_of l.yielded;
  rest : l.yielded ++ into_iter_items l.part-iterator ≡ into_iter_items l.initial.part-iterator;
}
