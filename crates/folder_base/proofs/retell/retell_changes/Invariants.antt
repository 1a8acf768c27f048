use Rattle.std.proofs.Common.{◌≡◌, ◌++◌, option_map}
use Rattle.std.specs.Vec.Iter.{into_iter_items}
use Rattle.folder_base.specs.Disk.{Names}
use Rattle.folder_base.specs.Retold.{AreRetoldChanges, retold}
use Rattle.folder_base.specs.Stored.{file_of}
use Rattle.folder_base.proofs.retell.retell_changes.Given as goal

abbrev pub invariant-loop-change : goal.invariant-loop-change
invariant-loop-change l = record {
  told : (live : Names) → live l.name ≡ option_map file_of l.file → AreRetoldChanges (retold live l.name (option_map (λ text. text.now) l.from)) l.yielded l.told.items;
  rest : l.yielded ++ into_iter_items l.change-iterator ≡ into_iter_items l.initial.change-iterator;
}
