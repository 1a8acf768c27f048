use Rattle.std.proofs.Common.{◌≡◌}
use Rattle.disk_folder.specs.Silent.{world_of}
use Rattle.folder_bench.proofs.folder_side.append.Given as goal

abbrev pub invariant-loop : goal.invariant-loop
invariant-loop g l = (world_of l.folder).faults ≡ (world_of l.fn.folder).faults

abbrev pub invariant-loop-done : goal.invariant-loop-done
invariant-loop-done g l = (world_of l.folder).faults ≡ (world_of l.fn.folder).faults
