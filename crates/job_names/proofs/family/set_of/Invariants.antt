use Rattle.std.proofs.Common.{◌≡◌, ℕ, List, take}
use Rattle.std.specs.Prelude.{bytes_eq}
use Rattle.std.specs.List.{list_any}
use Rattle.job_names.specs.Index.{has_text}
use Rattle.job_names.proofs.family.set_of.Given as goal

abbrev pub invariant-loop-text : goal.invariant-loop-text
invariant-loop-text l = (other : List ℕ) → has_text l.set other ≡ list_any (bytes_eq other) (take l.text-index l.texts)
