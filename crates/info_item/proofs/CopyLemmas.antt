-- The whole map of a view.
use Rattle.std.proofs.Common.{◌≡◌, ℕ, zero, suc, ◌+◌, List, [], ◌∷◌, drop, take, refl, sym, ap, subst, ◌∙◌, Bool, true, false, cond, add-one}
use Rattle.std.specs.Prelude.{Some, None, slice_get}
use Rattle.std.specs.Str.{bytes_eq}
use Rattle.std.proofs.lemmas.Cmp.{nat_list_eq_equiv}
use Rattle.std.proofs.lemmas.Option.{same_Some}
use Rattle.info_tree.specs.Tree.{Tree, mapping, pairs_of}
use Rattle.info_tree.specs.Pairs.{value_at, put, HaveDistinctKeys}
use Rattle.info_tree.proofs.PairLemmas.{pair_list-pairs_of}
use Rattle.info_item.specs.View.{over, others, put_other, is_shared, map_pairs}

drop-at : (ps : List (List ℕ × Tree)) (i : ℕ) (p : List ℕ × Tree) → slice_get ps i ≡ Some p → drop i ps ≡ p ∷ drop (suc i) ps
drop-at [] i p e = absurd (cc e)
drop-at (x ∷ ps) zero p e = ap (λ q. q ∷ ps) (same_Some x p e)
drop-at (x ∷ ps) (suc i) p e = drop-at ps i p e

pub over-step : (map new : List (List ℕ × Tree)) (i : ℕ) (ps : List (List ℕ × Tree)) (k : List ℕ) (t v : Tree) (goal : List (List ℕ × Tree)) →
    slice_get ps i ≡ Some (k, t) → v ≡ t → new ≡ put map k v → over map (drop i ps) ≡ goal → over new (drop (i + 1) ps) ≡ goal
over-step map new i ps k t v goal at same is before =
    rw (add-one, is, same) (ap (over map) (sym (drop-at ps i (k, t) at)) ∙ before)

differs : (ps : List (List ℕ × Tree)) (i : ℕ) (p : List ℕ × Tree) (k : List ℕ) → value_at ps k ≡ None → slice_get ps i ≡ Some p → bytes_eq k p.0 ≡ false
differs [] i p k n e = absurd (cc e)
differs (x ∷ ps) i p k n e = step (bytes_eq k x.0) refl n i e (λ j. differs ps j p k)
  where
    step : (b : Bool) → bytes_eq k x.0 ≡ b → cond b (Some x.1) (value_at ps k) ≡ None → (j : ℕ) → slice_get (x ∷ ps) j ≡ Some p →
        ((m : ℕ) → value_at ps k ≡ None → slice_get ps m ≡ Some p → bytes_eq k p.0 ≡ false) → bytes_eq k p.0 ≡ false
    step true h m j f rest = absurd (cc m)
    step false h m zero f rest = subst (λ (q : List ℕ × Tree). bytes_eq k q.0 ≡ false) (same_Some x p f) h
    step false h m (suc j) f rest = rest j m f

others-next : (ps : List (List ℕ × Tree)) (i : ℕ) (p : List ℕ × Tree) → HaveDistinctKeys ps → slice_get ps i ≡ Some p →
    put_other (others (take i ps)) p.0 p.1 ≡ others (take (suc i) ps)
others-next [] i p d e = absurd (cc e)
others-next (x ∷ ps) zero p d e = rw (sym (same_Some x p e)) (step (is_shared x.0))
  where
    step : (b : Bool) → cond b [] (x ∷ []) ≡ cond b [] (x ∷ [])
    step b = refl
others-next (x ∷ ps) (suc i) p d e = step (others-next ps i p d.1 e) (is_shared x.0)
  where
    other : bytes_eq p.0 x.0 ≡ false
    other = nat_list_eq_equiv.symm p.0 x.0 ∙ differs ps i p x.0 d.0 e

    step : put_other (others (take i ps)) p.0 p.1 ≡ others (take (suc i) ps) → (b : Bool) →
        put_other (cond b (others (take i ps)) (x ∷ others (take i ps))) p.0 p.1 ≡ cond b (others (take (suc i) ps)) (x ∷ others (take (suc i) ps))
    step less true = less
    step less false = inner (is_shared p.0) less
      where
        inner : (c : Bool) → cond c (others (take i ps)) (put (others (take i ps)) p.0 p.1) ≡ others (take (suc i) ps) →
            cond c (x ∷ others (take i ps)) (put (x ∷ others (take i ps)) p.0 p.1) ≡ x ∷ others (take (suc i) ps)
        inner true h = ap (λ l. x ∷ l) h
        inner false h = rw other (ap (λ l. x ∷ l) h)

pub others-step : (map new : List (List ℕ × Tree)) (i : ℕ) (ps : List (List ℕ × Tree)) (k : List ℕ) (t : Tree) → HaveDistinctKeys ps →
    slice_get ps i ≡ Some (k, t) → map ≡ others (take i ps) → new ≡ put_other map k t → new ≡ others (take (i + 1) ps)
others-step map new i ps k t distinct at before is =
    rw (add-one) (is ∙ ap (λ m. put_other m k t) before ∙ others-next ps i (k, t) distinct at)

pub map-is : (m : List (List ℕ × Tree)) (t : Tree) → mapping (pairs_of m) ≡ t → m ≡ map_pairs t
map-is m t e = sym (ap map_pairs (sym e) ∙ pair_list-pairs_of m)
