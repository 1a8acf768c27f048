use Rattle.std.proofs.Common.{◌≡◌, ◌-◌, ◌^◌, min, take}
use Rattle.std.specs.Prelude.{sum_by}
use Rattle.folder_base.specs.Memory.{asked}
use Rattle.folder_base.proofs.memory_parts.calls_of.Given as goal

abbrev pub invariant-loop-part : goal.invariant-loop-part
invariant-loop-part l = l.calls ≡ min (sum_by asked (take l.part-index l.part-items)) (2 ^ 64 - 1)
