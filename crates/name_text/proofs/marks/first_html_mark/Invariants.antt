use Rattle.std.proofs.Common.{◌≡◌, ℕ, ◌<◌, false}
use Rattle.std.specs.Prelude.{slice_index}
use Rattle.name_text.specs.Marks.{is_html_mark}
use Rattle.name_text.proofs.marks.first_html_mark.Given as goal

-- no mark stands before this place
abbrev pub invariant-loop-at : goal.invariant-loop-at
invariant-loop-at l = (k : ℕ) → k < l.at → is_html_mark (slice_index l.bytes k) ≡ false
