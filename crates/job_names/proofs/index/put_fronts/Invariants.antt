use Rattle.std.proofs.Common.{◌≡◌, ℕ, List, [], ◌∷◌, Some, None, if◌then◌else◌}
use Rattle.std.specs.Option.{option_or}
use Rattle.job_names.specs.Index.{told, is_piece_below}
use Rattle.job_names.proofs.index.put_fronts.Given as goal

abbrev pub invariant-loop-at : goal.invariant-loop-at
invariant-loop-at l =
    (front : List ℕ) → told l.map front ≡ option_or (told l.initial.map front) (if is_piece_below (front ∷ []) l.name l.at then Some l.place else None)
