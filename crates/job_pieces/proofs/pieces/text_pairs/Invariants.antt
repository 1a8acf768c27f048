use Rattle.std.proofs.Common.{◌≡◌, map, take}
use Rattle.job_pieces.specs.Pieces.{text_pairs}
use Rattle.job_pieces.proofs.pieces.text_pairs.Given as goal

abbrev pub invariant-loop-place : goal.invariant-loop-place
invariant-loop-place l = map (λ h. (h.name, h.value)) l.headers.items ≡ text_pairs (take l.place l.pairs)
