use Rattle.std.proofs.Common.{◌≡◌, ℕ, List, false}
use Rattle.std.specs.Prelude.{bytes_eq}
use Rattle.std.specs.List.{list_any}
use Rattle.job_names.specs.Index.{has_text, is_piece_below}
use Rattle.job_names.proofs.family.is_piece_of.Given as goal

abbrev pub invariant-loop-place : goal.invariant-loop-place
invariant-loop-place l =
    (texts : List (List ℕ)) → ((text : List ℕ) → has_text l.components text ≡ list_any (bytes_eq text) texts) → is_piece_below texts l.name l.place ≡ false
