use Rattle.std.proofs.Common.{◌≡◌, ◌<◌, ℕ, None, take, get_or}
use Rattle.folder_base.specs.Index.{place_of}
use Rattle.folder_base.proofs.index.find_part.Given as goal

abbrev pub invariant-loop-at : goal.invariant-loop-at
invariant-loop-at l = (k : ℕ) → k < l.at → get_or l.name k 0 ≡ 46 → place_of l.index (take k l.name) ≡ None
