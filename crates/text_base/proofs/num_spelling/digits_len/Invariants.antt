use Rattle.std.proofs.Common.{◌≡◌, ℕ, ◌<◌}
use Rattle.std.specs.Prelude.{slice_index, true}
use Rattle.text_base.specs.Spelling.{is_digit}
use Rattle.text_base.proofs.num_spelling.digits_len.Given as goal

-- every byte before this place is a digit
abbrev pub invariant-loop-at : goal.invariant-loop-at
invariant-loop-at l = (k : ℕ) → k < l.at → is_digit (slice_index l.bytes k) ≡ true
