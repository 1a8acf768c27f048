use Rattle.std.proofs.Common.{◌≡◌, length}
use Rattle.text_base.specs.Spaces.{without_first_spaces}
use Rattle.text_base.proofs.spaces.bytes_without_first_spaces.Given as goal

-- only spaces are gone so far
abbrev pub invariant-loop-rest : goal.invariant-loop-rest
invariant-loop-rest l = without_first_spaces l.bytes ≡ without_first_spaces l.rest

abbrev pub decreases-loop-rest : goal.decreases-loop-rest
decreases-loop-rest l = length l.rest
