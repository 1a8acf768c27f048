use Rattle.std.proofs.Common.{take}
use Rattle.folder_base.specs.Index.{IsIndex}
use Rattle.folder_base.proofs.index.index_of.Given as goal

abbrev pub invariant-loop-at : goal.invariant-loop-at
invariant-loop-at l = IsIndex (take l.at l.stem-items) l.index
