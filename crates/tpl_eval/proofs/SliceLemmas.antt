-- A slice of what is seen of items is what is seen of the slice.
use Rattle.std.proofs.Common.{◌≡◌, ℕ, zero, suc, ◌-◌, List, [], ◌∷◌, ◌++◌, length, map, take, drop, reverse, refl, sym, ap, ◌∙◌, ℤ, pos, negsuc}
use Rattle.std.specs.Option.{unwrap_or}
use Rattle.tpl_lang.specs.declared.key.Slice.{Slice}
use Rattle.tpl_eval.specs.Slice.{bound, behind, bound_or, between, every, stepped, sliced}
use Rattle.std.proofs.lemmas.List.{length-map, take-map, drop-map, reverse-append, map-append}

module _ {A B : Type 0} (f : A → B) where
  map-every : (gap wait : ℕ) (xs : List A) → map f (every gap wait xs) ≡ every gap wait (map f xs)
  map-every gap wait [] = refl
  map-every gap zero (x ∷ xs) = ap (λ l. f x ∷ l) (map-every gap gap xs)
  map-every gap (suc wait) (x ∷ xs) = map-every gap wait xs

  map-between : (low high : ℕ) (xs : List A) → map f (between low high xs) ≡ between low high (map f xs)
  map-between low high xs = sym (take-map f (high - low) (drop low xs)) ∙ ap (take (high - low)) (sym (drop-map f low xs))

  map-reverse : (xs : List A) → map f (reverse xs) ≡ reverse (map f xs)
  map-reverse [] = refl
  map-reverse (x ∷ xs) =
      ap (map f) (reverse-append (x ∷ []) xs) ∙ map-append f (reverse xs) (x ∷ []) ∙ ap (λ l. l ++ f x ∷ []) (map-reverse xs) ∙ sym (reverse-append (f x ∷ []) (map f xs))

  pub map-sliced : (s : Slice) (xs : List A) → map f (sliced s xs) ≡ sliced s (map f xs)
  map-sliced s xs = step (unwrap_or s.step (pos 1))
    where
      step : (z : ℤ) → map f (stepped z s xs) ≡ stepped z s (map f xs)
      step (pos n) = rw (length-map xs f) (map-every (n - 1) 0 (between (bound_or (bound (length xs)) 0 s.from) (bound_or (bound (length xs)) (length xs) s.to) xs)
          ∙ ap (every (n - 1) 0) (map-between (bound_or (bound (length xs)) 0 s.from) (bound_or (bound (length xs)) (length xs) s.to) xs))
      step (negsuc n) = rw (length-map xs f) (map-every n 0 (reverse (between (bound_or (behind (length xs)) 0 s.to) (bound_or (behind (length xs)) (length xs) s.from) xs))
          ∙ ap (every n 0) (map-reverse (between (bound_or (behind (length xs)) 0 s.to) (bound_or (behind (length xs)) (length xs) s.from) xs)
          ∙ ap reverse (map-between (bound_or (behind (length xs)) 0 s.to) (bound_or (behind (length xs)) (length xs) s.from) xs)))
