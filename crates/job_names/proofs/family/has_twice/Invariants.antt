use Rattle.std.proofs.Common.{◌≡◌, ℕ, List, false, take}
use Rattle.std.specs.Prelude.{bytes_eq}
use Rattle.std.specs.List.{list_any}
use Rattle.job_names.specs.Family.{has_twice}
use Rattle.job_names.specs.Index.{has_text}
use Rattle.job_names.proofs.family.has_twice.Given as goal

abbrev pub invariant-loop-name : goal.invariant-loop-name
invariant-loop-name l =
    ((text : List ℕ) → has_text l.seen text ≡ list_any (bytes_eq text) (take l.name-index l.names)) × (has_twice (take l.name-index l.names) ≡ false)
