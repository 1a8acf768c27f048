use Rattle.folder_base.specs.Memory.{world_of}
use Rattle.folder_base.specs.Story.{IsWhole}
use Rattle.store_tests.proofs.components.listed.Given as goal

abbrev pub invariant-loop-name : goal.invariant-loop-name
invariant-loop-name l = IsWhole (world_of l.folder)
