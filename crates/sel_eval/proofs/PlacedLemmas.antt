-- Formats at places, as they are gathered, and the streams of parts that are gathered.
use Rattle.std.proofs.Common.{◌≡◌, ℕ, ◌+◌, ◌<◌, List, [], ◌∷◌, ◌++◌, take, get_or, length, Bool, true, false, ◌||◌, Some, refl, sym, ap, ◌∙◌}
use Rattle.std.specs.Prelude.{slice_get}
use Rattle.std.specs.List.{list_any}
use Rattle.std.proofs.lemmas.List.{take_more}
use Rattle.std.proofs.lemmas.List.Elements.{filter_map-append}
use Rattle.std.proofs.lemmas.List.Folds.{list_any-append}
use Rattle.info_item.specs.Item.{Format}
use Rattle.sel_eval.specs.Placed.{Placed, placed_at, at_places}

-- one more place
places_push : (formats : List Format) (ks : List ℕ) (k : ℕ) (f : Format) → slice_get formats k ≡ Some f → at_places formats (ks ++ k ∷ []) ≡ at_places formats ks ++ record { place = k; format = f } ∷ []
places_push formats ks k f e = filter_map-append (placed_at formats) ks (k ∷ []) ∙ ap (λ (z : List Placed). at_places formats ks ++ z) (rw e refl)

-- the place that a loop is at, with the format there
pub places_more : (formats : List Format) (places : List ℕ) (i : ℕ) (f : Format) (all : List Placed) → i < length places → slice_get formats (get_or places i 0) ≡ Some f
    → all ≡ at_places formats (take i places) → all ++ record { place = get_or places i 0; format = f } ∷ [] ≡ at_places formats (take (i + 1) places)
places_more formats places i f all l here h =
    ap (λ (z : List Placed). z ++ record { place = get_or places i 0; format = f } ∷ []) h
    ∙ (sym (places_push formats (take i places) (get_or places i 0) f here) ∙ ap (at_places formats) (sym (take_more places i 0 l)))

or_false : (b : Bool) → (b || false) ≡ b
or_false true = refl
or_false false = refl

-- whether some part passes, with one part more
pub any_push : (test : Placed → Bool) (parts : List Placed) (p : Placed) → list_any test (parts ++ p ∷ []) ≡ (list_any test parts || test p)
any_push test parts p = list_any-append test parts (p ∷ []) ∙ ap (λ (b : Bool). list_any test parts || b) (or_false (test p))
