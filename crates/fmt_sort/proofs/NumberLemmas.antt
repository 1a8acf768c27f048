-- The number from which pieces are counted changes no field.
use Rattle.std.proofs.Common.{◌≡◌, ℕ, ◌+◌, List, [], ◌∷◌, ◌++◌, refl, sym, ap, ◌∙◌}
use Rattle.std.specs.Prelude.{Option, Some, None, unwrap_or, Result, Ok, Err}
use Rattle.std.specs.Option.{ok_or}
use Rattle.std.specs.Result.{result_ok}
use Rattle.text_base.proofs.Logic.{same_Ok}
use Rattle.fmt_sort.specs.Pieces.{Parts, parts}
use Rattle.fmt_sort.specs.Reading.{before_others, fields_by, fields_or_fault, piece_given, pieces_given, pieces_of, target_of, word_given}
use Rattle.fmt_sort.specs.Spec.{Given}
use Rattle.fmt_sort.specs.declared.sort_fault.SortFault.{SortFault}
use Rattle.fmt_sort.specs.declared.sort_fault.SortFault.TheVariants.{Limit}
use Rattle.fmt_sort.specs.declared.target.Target.{Target}

module _ (j k : ℕ) where
  by_fields : (x : Option (List Given)) (fs : List Given) → ok_or x (Limit k) ≡ Ok fs → ok_or x (Limit j) ≡ Ok fs
  by_fields None fs e = cc e
  by_fields (Some gs) fs e = ap (λ z. Ok z) (same_Ok gs fs e)

  by_target : (p : Parts) (target : Option Target) (fs : List Given) → fields_or_fault k p target ≡ Ok fs → fields_or_fault j p target ≡ Ok fs
  by_target p None fs e = cc e
  by_target p (Some target) fs e = by_fields (fields_by p target) fs e

  piece_elsewhere : (piece : List ℕ) (fs : List Given) → piece_given k piece ≡ Ok fs → piece_given j piece ≡ Ok fs
  piece_elsewhere piece fs e = by_target (parts piece) (target_of (parts piece).name) fs e

both_there : (x y : Result (List Given) SortFault) (fs : List Given) → before_others x y ≡ Ok fs →
    (gs : List Given) × (hs : List Given) × (x ≡ Ok gs) × (y ≡ Ok hs) × (gs ++ hs ≡ fs)
both_there (Err f) y fs e = cc e
both_there (Ok gs) (Err f) fs e = cc e
both_there (Ok gs) (Ok hs) fs e = (gs, hs, refl, refl, same_Ok (gs ++ hs) fs e)

-- pieces without a fault give the same fields, from whatever number they are counted
given_elsewhere : (j k : ℕ) (pieces : List (List ℕ)) (fs : List Given) → pieces_given k pieces ≡ Ok fs → pieces_given j pieces ≡ Ok fs
given_elsewhere j k [] fs e = e
given_elsewhere j k (piece ∷ pieces) fs e =
    let (gs, hs, first, rest, all) = both_there (piece_given k piece) (pieces_given (k + 1) pieces) fs e in
    ap (λ z. before_others z (pieces_given (j + 1) pieces)) (piece_elsewhere j k piece gs first)
    ∙ (ap (λ z. before_others (Ok gs) z) (given_elsewhere (j + 1) (k + 1) pieces hs rest) ∙ ap (λ z. Ok z) all)

-- the fields of a word that has no fault
pub word_read : (k : ℕ) (word : List ℕ) (fs : List Given) → pieces_given k (pieces_of word) ≡ Ok fs → word_given word ≡ fs
word_read k word fs e = ap (λ z. unwrap_or (result_ok z) []) (given_elsewhere 0 k (pieces_of word) fs e)
