use Rattle.std.proofs.Common.{◌≡◌, ◌≤◌, ◌+◌, ◌-◌, map, drop, length, vec_len, Ok}
use Rattle.fmt_sort.specs.Reading.{pieces_of, pieces_given, before_others}
use Rattle.fmt_sort.specs.Spec.{given_of}
use Rattle.fmt_sort.proofs.reading.read_pieces.Given as goal

-- the pieces before this start are read and counted, and each gave a field
abbrev pub invariant-pieces : goal.invariant-pieces
invariant-pieces l =
    (l.start ≤ length l.word)
    × (pieces_given l.number (pieces_of l.word)
    ≡ before_others (Ok (map given_of l.fields.items)) (pieces_given l.next (pieces_of (drop l.start l.word))))
    × (l.number + length (pieces_of l.word) ≡ l.next + length (pieces_of (drop l.start l.word)))
    × (l.next ≤ l.number + vec_len l.fields)
    × (l.next ≤ l.number + l.start)

abbrev pub decreases-pieces : goal.decreases-pieces
decreases-pieces l = (length l.word + 1) - l.start
