use Rattle.std.proofs.Common.{take}
use Rattle.folder_base.specs.Split.{AreEmpty}
use Rattle.folder_base.proofs.split.empty_files.Given as goal

abbrev pub invariant-loop-stem : goal.invariant-loop-stem
invariant-loop-stem l = AreEmpty (take l._stem-index l._stem-items) l.split.items
