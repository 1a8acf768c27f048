use Rattle.std.proofs.Common.{◌≡◌, false, take}
use Rattle.job_names.specs.Family.{is_piece_of}
use Rattle.job_names.proofs.family.is_piece_among.Given as goal

abbrev pub invariant-loop-component : goal.invariant-loop-component
invariant-loop-component l = is_piece_of (take l.component-index l.components) l.name ≡ false
