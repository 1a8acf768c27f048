use Rattle.std.proofs.Common.{◌≡◌, ◌||◌, take}
use Rattle.std.specs.List.{list_any}
use Rattle.job_names.specs.Family.{in_family}
use Rattle.job_names.specs.Index.{Log, IsIndex, first_with, has_piece_of}
use Rattle.job_names.proofs.index.NameIndex.first_met.Given as goal

abbrev pub invariant-loop-name : goal.invariant-loop-name
invariant-loop-name l = (log : Log) → IsIndex log l.self → l.first ≡ first_with (λ earlier. list_any (in_family earlier) (take l.name-index l.exact)) log

abbrev pub invariant-loop-component : goal.invariant-loop-component
invariant-loop-component l =
    (log : Log) → IsIndex log l.self
    → l.first ≡ first_with (λ earlier. list_any (in_family earlier) l.exact || list_any (λ c. has_piece_of c earlier) (take l.component-index l.components)) log
