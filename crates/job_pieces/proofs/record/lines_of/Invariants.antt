use Rattle.std.proofs.Common.{◌≡◌, map, take}
use Rattle.job_pieces.specs.Record.{line_of}
use Rattle.job_pieces.specs.Views.{plain_piece}
use Rattle.job_pieces.proofs.record.lines_of.Given as goal

abbrev pub invariant-loop-piece : goal.invariant-loop-piece
invariant-loop-piece l = l.lines.items ≡ map line_of (map plain_piece (take l.piece-index l.pieces))
