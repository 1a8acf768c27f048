use Rattle.std.proofs.Common.{◌≡◌, map}
use Rattle.folder_base.proofs.Holding.{held}
use Rattle.store_tests.proofs.folders.parts.written_in_parts.Given as goal

abbrev pub invariant-loop-at : goal.invariant-loop-at
invariant-loop-at l = map held l.part-items ≡ map held l.initial.part-items
