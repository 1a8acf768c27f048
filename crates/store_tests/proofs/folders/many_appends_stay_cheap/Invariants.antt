use Rattle.folder_base.specs.Memory.{world_of}
use Rattle.folder_base.specs.Story.{IsWhole}
use Rattle.store_tests.proofs.folders.many_appends_stay_cheap.Given as goal

abbrev pub invariant-loop : goal.invariant-loop
invariant-loop g l = IsWhole (world_of l.folder)
