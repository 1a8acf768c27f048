use Rattle.std.proofs.Common.{◌≡◌, ◌≤◌, ℕ, ◌<◌}
use Rattle.std.specs.Prelude.{slice_index, false}
use Rattle.text_base.specs.Scan.{is_name_special}
use Rattle.text_base.proofs.scan.name_special_in_rest.Given as goal

-- no byte before this place passes
abbrev pub invariant-loop-at : goal.invariant-loop-at
invariant-loop-at l = (k : ℕ) → l.from ≤ k → k < l.at → is_name_special (slice_index l.bytes k) ≡ false
