use Rattle.std.proofs.Common.{◌≡◌, ℕ, ◌<◌, List, [], length, take, get_or, true}
use Rattle.std.specs.BTreeSet.{contains_text}
use Rattle.std.specs.Str.{is_utf8}
use Rattle.archive_store.specs.Lines.{pieces_of, lines_in, is_among}
use Rattle.archive_store.proofs.reading.lines_of.Given as goal

abbrev pub invariant-loop-place : goal.invariant-loop-place
invariant-loop-place l = record {
  can : (goal.iterator-loop-place).can_next l.place-iterator;
  finite : (goal.iterator-loop-place).is_finite l.place-iterator;
  read : (other : List ℕ) → contains_text l.lines other ≡ is_among (lines_in (take (length l.yielded) (pieces_of l.bytes))) other;
  good : (k : ℕ) → k < length l.yielded → is_utf8 (get_or (pieces_of l.bytes) k []) ≡ true;
}
