use Rattle.std.proofs.Common.{◌≡◌, ◌++◌, length, take}
use Rattle.std.specs.Vec.Iter.{into_iter_items}
use Rattle.folder_base.specs.Line.{AreLines}
use Rattle.folder_base.proofs.part_lines.part_lines.Given as goal

abbrev pub invariant-loop-files : goal.invariant-loop-files
invariant-loop-files l = record {
  lines : AreLines l.log.value (take (length l.yielded) l.stems.items) l.lines.items;
  many : length l.lines.items ≡ length l.yielded;
  rest : l.yielded ++ into_iter_items l.files-iterator ≡ into_iter_items l.initial.files-iterator;
}
