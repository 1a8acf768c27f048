use Rattle.std.proofs.Common.{◌≡◌, length}
use Rattle.disk_folder.proofs.disk.Disk.fan.Given as goal

abbrev pub invariant-loop-stem : goal.invariant-loop-stem
invariant-loop-stem g l = length l.parts.items ≡ l.stem-index
