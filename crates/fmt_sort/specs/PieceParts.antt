-- The parts of a piece as the program holds them.
use Rattle.fmt_sort.specs.Pieces.{Parts}
use Rattle.fmt_sort.specs.declared.piece.Piece.{Piece}

-- what the slices of the parts hold
abbrev pub parts_in : Piece → Parts
parts_in p = record { reversed = p.is_reversed; name = p.name.now; nearest = p.is_nearest; limit = p.limit.now }
