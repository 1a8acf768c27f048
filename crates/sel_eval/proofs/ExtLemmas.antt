-- The container of a merge, as it is found.
use Rattle.std.proofs.Common.{◌≡◌, ℕ, ◌-◌, List, [], ◌∷◌, length, find, slice_get, Option, Some, None, Bor, refl}
use Rattle.std.specs.Prelude.{unwrap_or}
use Rattle.std.specs.Option.{option_map}
use Rattle.sel_eval.specs.Placed.{Placed}
use Rattle.sel_eval.specs.Ext.{takes_all, fitting, tried}

-- the first that takes all, else the last that is listed
pub fitting_is : (parts : List Placed) (listed : List (List ℕ)) (last : List ℕ) (found : Option (List ℕ)) → slice_get listed (length listed - 1) ≡ Some last
    → found ≡ find (takes_all parts) listed → unwrap_or found last ≡ fitting parts (tried listed)
fitting_is parts [] last found is e = absurd (let no : ⊥ = cc in no)
fitting_is parts (c ∷ cs) last found is e = rw (e, is) refl

-- what a reference points to that was found, or else another
pub unwrap_now : (found : Option (Bor (List ℕ))) (last : Bor (List ℕ)) → (unwrap_or found last).now ≡ unwrap_or (option_map (λ x. x.now) found) last.now
unwrap_now None last = refl
unwrap_now (Some x) last = refl
