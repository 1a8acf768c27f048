-- The parts of a file, one after another.
use Rattle.std.proofs.Common.{◌≡◌, ℕ, suc, ◌+◌, ◌<◌, List, [], ◌∷◌, ◌++◌, length, get_or, take, drop, refl, sym, ap, ◌∙◌, add-one, drop-cons}
use Rattle.std.specs.Prelude.{Some, None, map, slice_get, filter_map}
use Rattle.std.proofs.lemmas.List.{take_more, append-nil}
use Rattle.std.proofs.lemmas.List.Elements.{filter_map-append}
use Rattle.info_item.specs.Item.{Format}

-- the next of a list, and those behind it
pub map-next : {A B : Type 0} (g : A → B) (xs : List A) (i : ℕ) (x : A) → i < length xs → x ≡ get_or xs i x →
    map g (drop i xs) ≡ g x ∷ map g (drop (i + 1) xs)
map-next g xs i x low is =
    rw add-one (ap (map g) (drop-cons xs i x low) ∙ ap (λ y. g y ∷ map g (drop (suc i) xs)) (sym is))

picked-more : (fs : List Format) (places : List ℕ) (i : ℕ) → i < length places →
    filter_map (slice_get fs) (take (i + 1) places) ≡ filter_map (slice_get fs) (take i places) ++ filter_map (slice_get fs) (get_or places i 0 ∷ [])
picked-more fs places i low =
    ap (filter_map (slice_get fs)) (take_more places i 0 low) ∙ filter_map-append (slice_get fs) (take i places) (get_or places i 0 ∷ [])

-- a place where no format stands
pub picked-none : (fs : List Format) (places : List ℕ) (i : ℕ) → i < length places → slice_get fs (get_or places i 0) ≡ None →
    filter_map (slice_get fs) (take (i + 1) places) ≡ filter_map (slice_get fs) (take i places)
picked-none fs places i low e = picked-more fs places i low ∙ rw e (append-nil (filter_map (slice_get fs) (take i places)))

-- and one where a format stands
pub picked-some : (fs : List Format) (places : List ℕ) (i : ℕ) (f : Format) → i < length places → slice_get fs (get_or places i 0) ≡ Some f →
    filter_map (slice_get fs) (take (i + 1) places) ≡ filter_map (slice_get fs) (take i places) ++ f ∷ []
picked-some fs places i f low e = picked-more fs places i low ∙ rw e refl
