use Rattle.std.proofs.Common.{◌≡◌, ℕ, ◌<◌, get_or, false}
use Rattle.fmt_sort.specs.Marks.{is_marked}
use Rattle.fmt_sort.proofs.mark.Mark.place.Given as goal

-- no such byte stands before this place
abbrev pub invariant-loop-at : goal.invariant-loop-at
invariant-loop-at l = (k : ℕ) → k < l.at → is_marked l.fn.self (get_or l.bytes k 0) ≡ false
