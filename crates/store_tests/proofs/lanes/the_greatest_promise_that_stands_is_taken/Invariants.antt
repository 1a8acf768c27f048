use Rattle.folder_base.specs.Memory.{world_of}
use Rattle.folder_base.specs.Story.{IsWhole}
use Rattle.store_tests.proofs.lanes.the_greatest_promise_that_stands_is_taken.Given as goal

abbrev pub invariant-loop-name : goal.invariant-loop-name
invariant-loop-name g l = IsWhole (world_of l.folder)
