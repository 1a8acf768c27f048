use Rattle.folder_base.specs.Memory.{world_of}
use Rattle.folder_base.specs.Story.{IsWhole}
use Rattle.store_tests.proofs.folders.parts.finds_each.Given as goal

abbrev pub invariant-loop-stem : goal.invariant-loop-stem
invariant-loop-stem g l = IsWhole (world_of l.folder)
