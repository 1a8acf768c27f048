use Rattle.std.proofs.Common.{◌≡◌}
use Rattle.std.specs.Prelude.{codes}
use Rattle.folder_base.proofs.Spelled.{numbered_stems}
use Rattle.folder_bench.proofs.names.stems.Given as goal

abbrev pub invariant-loop-number : goal.invariant-loop-number
invariant-loop-number l = l.stems.items ≡ numbered_stems (codes "v.part-Frag") l.number-counter
