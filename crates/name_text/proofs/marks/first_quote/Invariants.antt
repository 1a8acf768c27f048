use Rattle.std.proofs.Common.{◌≡◌, ◌==◌, ℕ, ◌<◌, false}
use Rattle.std.specs.Prelude.{slice_index}
use Rattle.name_text.proofs.marks.first_quote.Given as goal

-- no mark stands before this place
abbrev pub invariant-loop-at : goal.invariant-loop-at
invariant-loop-at l = (k : ℕ) → k < l.at → (slice_index l.bytes k == 39) ≡ false
