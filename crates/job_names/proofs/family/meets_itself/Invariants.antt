use Rattle.std.proofs.Common.{◌≡◌, false, take}
use Rattle.std.specs.List.{list_any}
use Rattle.job_names.specs.Family.{is_piece_of}
use Rattle.job_names.proofs.family.meets_itself.Given as goal

abbrev pub invariant-loop-name : goal.invariant-loop-name
invariant-loop-name l = list_any (is_piece_of l.components) (take l.name-index l.exact) ≡ false
