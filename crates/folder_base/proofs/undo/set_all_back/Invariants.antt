use Rattle.std.proofs.Common.{◌≡◌, ◌++◌}
use Rattle.std.specs.Vec.Iter.{into_iter_items}
use Rattle.folder_base.specs.Files.{names_of}
use Rattle.folder_base.specs.Undo.{set_names}
use Rattle.folder_base.proofs.undo.set_all_back.Given as goal

abbrev pub invariant-loop-change : goal.invariant-loop-change
invariant-loop-change l = record {
  set : names_of l.files ≡ set_names (names_of l.live) l.yielded (names_of l.initial.files);
  rest : l.yielded ++ into_iter_items l.change-iterator ≡ into_iter_items l.initial.change-iterator;
}
