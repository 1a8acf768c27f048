use Rattle.std.proofs.Common.{◌≡◌}
use Rattle.job_names.specs.Index.{Log, IsIndex, first_with, is_piece_below}
use Rattle.job_names.proofs.index.NameIndex.piece_at.Given as goal

abbrev pub invariant-loop-at : goal.invariant-loop-at
invariant-loop-at l = (log : Log) → IsIndex log l.self → l.first ≡ first_with (λ names. is_piece_below names.components l.name l.at) log
