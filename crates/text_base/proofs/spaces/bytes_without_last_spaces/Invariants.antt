use Rattle.std.proofs.Common.{◌≡◌, ◌≤◌, take, length}
use Rattle.text_base.specs.Spaces.{without_last_spaces}
use Rattle.text_base.proofs.spaces.bytes_without_last_spaces.Given as goal

-- spaces stand from this end on
abbrev pub invariant-loop-end : goal.invariant-loop-end
invariant-loop-end l = (l.end ≤ length l.bytes) × (without_last_spaces l.bytes ≡ without_last_spaces (take l.end l.bytes))

abbrev pub decreases-loop-end : goal.decreases-loop-end
decreases-loop-end l = l.end
