use Rattle.std.proofs.Common.{◌≤◌, ◌-◌, length}
use Rattle.text_base.specs.Scan.{is_name_special}
use Rattle.text_base.proofs.ScanLemmas.{NonePass}
use Rattle.text_base.proofs.scan.first_name_special.Given as goal

-- no byte before this place passes
abbrev pub invariant-loop-block : goal.invariant-loop-block
invariant-loop-block l = (l.from ≤ l.at) × (l.at ≤ length l.bytes) × NonePass is_name_special l.bytes l.from l.at

abbrev pub decreases-loop-block : goal.decreases-loop-block
decreases-loop-block l = length l.bytes - l.at
