-- The items of a list and the pairs of a map, one after another.
use Rattle.std.proofs.Common.{◌≡◌, ℕ, zero, suc, ◌+◌, ◌≤◌, List, [], ◌∷◌, ◌++◌, refl, sym, ap, subst, arith, take, Bool, true, false, cond, add-one}
use Rattle.std.specs.Prelude.{Some, None, slice_get}
use Rattle.std.specs.List.{zip, IsDistinct, AllByRecursion}
use Rattle.std.specs.Str.{bytes_eq}
use Rattle.std.proofs.lemmas.Option.{same_Some}
use Rattle.text_base.proofs.Logic.{bytes_differ_back}
use Rattle.info_tree.specs.Tree.{Tree as Plain, trees_of, pairs_of, tree_size, trees_size, pairs_size}
use Rattle.info_tree.specs.Pairs.{value_at, put, HaveDistinctKeys}
use Rattle.info_tree.proofs.Places.{none_not_some}

-- an item is no larger than its list
pub item_size : (ts : List Plain) (i : ℕ) (t : Plain) → slice_get ts i ≡ Some t → tree_size t ≤ trees_size (trees_of ts)
item_size [] i t e = absurd (none_not_some e)
item_size (x ∷ ts) zero t e = let same : x ≡ t = same_Some _ _ e in rw (← same) (omega arith)
item_size (x ∷ ts) (suc i) t e = omega (arith, item_size ts i t e)

-- nor is a value of a map
pub pair_size : (ps : List (List ℕ × Plain)) (i : ℕ) (p : List ℕ × Plain) → slice_get ps i ≡ Some p → tree_size p.1 ≤ pairs_size (pairs_of ps)
pair_size [] i p e = absurd (none_not_some e)
pair_size (x ∷ ps) zero p e = let same : x.1 ≡ p.1 = ap (λ q. q.1) (same_Some _ _ e) in rw (← same) (omega arith)
pair_size (x ∷ ps) (suc i) p e = omega (arith, pair_size ps i p e)

item_after : {A : Type 0} (ts : List A) (i : ℕ) (t : A) → slice_get ts i ≡ Some t → take i ts ++ t ∷ [] ≡ take (suc i) ts
item_after [] i t e = absurd (none_not_some e)
item_after (x ∷ ts) zero t e = λ j. sym (same_Some _ _ e) j ∷ []
item_after (x ∷ ts) (suc i) t e = ap (λ l. x ∷ l) (item_after ts i t e)

pub next_item : {A : Type 0} (ts : List A) (i : ℕ) (t : A) → slice_get ts i ≡ Some t → take i ts ++ t ∷ [] ≡ take (i + 1) ts
next_item ts i t e = rw add-one (item_after ts i t e)

-- a key that is not there differs from each that is
differs : (ps : List (List ℕ × Plain)) (i : ℕ) (p : List ℕ × Plain) (k : List ℕ) → value_at ps k ≡ None → slice_get ps i ≡ Some p → bytes_eq k p.0 ≡ false
differs [] i p k n e = absurd (none_not_some e)
differs (x ∷ ps) i p k n e = step (bytes_eq k x.0) refl n i e (λ j. differs ps j p k)
  where
    step : (b : Bool) → bytes_eq k x.0 ≡ b → cond b (Some x.1) (value_at ps k) ≡ None → (j : ℕ) → slice_get (x ∷ ps) j ≡ Some p →
        ((m : ℕ) → value_at ps k ≡ None → slice_get ps m ≡ Some p → bytes_eq k p.0 ≡ false) → bytes_eq k p.0 ≡ false
    step true h m j f rest = absurd (none_not_some (sym m))
    step false h m zero f rest = subst (λ (q : List ℕ × Plain). bytes_eq k q.0 ≡ false) (same_Some _ _ f) h
    step false h m (suc j) f rest = rest j m f

pair_after : (ps : List (List ℕ × Plain)) (i : ℕ) (p : List ℕ × Plain) → HaveDistinctKeys ps → slice_get ps i ≡ Some p →
    put (take i ps) p.0 p.1 ≡ take (suc i) ps
pair_after [] i p d e = absurd (none_not_some e)
pair_after (x ∷ ps) zero p d e = λ j. sym (same_Some _ _ e) j ∷ []
pair_after (x ∷ ps) (suc i) p d e =
    let other : bytes_eq p.0 x.0 ≡ false = bytes_differ_back x.0 p.0 (differs ps i p x.0 d.0 e) in
    rw other (ap (λ l. x ∷ l) (pair_after ps i p d.1 e))

-- the next pair goes last
pub next_pair : (ps : List (List ℕ × Plain)) (i : ℕ) (p : List ℕ × Plain) → HaveDistinctKeys ps → slice_get ps i ≡ Some p →
    put (take i ps) p.0 p.1 ≡ take (i + 1) ps
next_pair ps i p d e = rw add-one (pair_after ps i p d e)

none_at : (k : List ℕ) (ks : List (List ℕ)) (vs : List Plain) → AllByRecursion (λ y. bytes_eq k y ≡ false) ks →
    value_at (zip ks vs) k ≡ None
none_at k [] vs h = refl
none_at k (q ∷ ks) [] h = refl
none_at k (q ∷ ks) (v ∷ vs) h = let other : bytes_eq k q ≡ false = h.0 in rw other (none_at k ks vs h.1)

-- the pairs of keys that differ
pub distinct_pairs : (ks : List (List ℕ)) (vs : List Plain) → IsDistinct bytes_eq ks → HaveDistinctKeys (zip ks vs)
unfolding IsDistinct
distinct_pairs [] vs h = tt
distinct_pairs (k ∷ ks) [] h = tt
distinct_pairs (k ∷ ks) (v ∷ vs) h = (none_at k ks vs h.0, distinct_pairs ks vs h.1)

-- where nothing stands at a place, all stands before it
pub all_taken : {A : Type 0} (xs : List A) (i : ℕ) → slice_get xs i ≡ None → take i xs ≡ xs
all_taken [] zero e = refl
all_taken [] (suc i) e = refl
all_taken (x ∷ xs) zero e = absurd (none_not_some (sym e))
all_taken (x ∷ xs) (suc i) e = ap (λ l. x ∷ l) (all_taken xs i e)
