-- What the seats know: a seat is split, two are joined, the first begins, and the one with all parts ends.
use Rattle.std.proofs.Common.{◌≡◌, ◌≢◌, ℕ, zero, suc, ◌+◌, ◌-◌, ◌<◌, ◌≤◌, ◌^◌, Bool, true, true≢false, min, List, [], ◌∷◌, ◌++◌, map, length, set, refl, sym, ap, ◌∙◌, subst, ⊎_elim, arith, ap₂}
use mathlib.Core.Option.{Option, some, none, some-injective, some-ne-none}
use lib.ListN.{get_elem?}
use Rattle.atomic_table.specs.Table.{State, Splits, Joins, Final, Seen, opening}
use Rattle.atomic_table.proofs.Lists.{at_snoc, set_else, at_longer, at_map}
use Rattle.claim_crew.specs.declared.rule.Progress.{Progress}
use Rattle.claim_crew.specs.Claimed.{sum_of, sum_below}
use Rattle.claim_crew.specs.Rule.{fresh, joined, drawn, ProgressFits, Entry, IsOut, CounterInvariant, Settled}
use Rattle.claim_crew.proofs.StepLemmas.{fits_set, out_else}
use Rattle.claim_crew.proofs.SumLemmas.{sum_of-append, sum_of_set, sum_of_others, sum_of_alone, at_append, at_lt, length-map, at_map_from}

module _ {T : Type 0} (fails : T → Bool) where
  -- a seat that has not begun fits the rule
  fits_fresh : (xs : List T) (owner : ℕ → ℕ) (n flag : ℕ) (homes : List (Option T)) (j : ℕ) (start : List T) (workers : ℕ) → (0 < workers → start ≡ xs) → ProgressFits xs owner n flag homes j (fresh start workers)
  fits_fresh xs owner n flag homes j start workers is = record {
    misses = omega arith;
    start = is;
    idle = λ _. (refl, refl);
    drawn_below = omega arith;
    finished = λ e. absurd (true≢false (sym e));
    out = λ i x e. absurd (some-ne-none x (sym e));
    back = λ i p e. absurd (some-ne-none p (sym e));
  }

  -- a view with no slot is not the one that a slot is out with
  not_mine : (views : List (Progress T)) (id j m : ℕ) (v : Progress T) → get_elem? views id ≡ some v → v.claimed ≡ [] → IsOut views j m → j ≢ id
  not_mine views id j m v at free o same = some-ne-none o.3 (sym (subst (λ (l : List (ℕ × T)). get_elem? l o.2 ≡ some o.3) free (subst (λ (u : Progress T). get_elem? u.claimed o.2 ≡ some o.3) (some-injective _ _ (sym o.1 ∙ (ap (get_elem? views) same ∙ at))) o.4)))

  pub cuts : (xs : List T) (workers id : ℕ) (v : Progress T) (start : List T) (m : ℕ) → v ≡ fresh start m → 0 < m → Splits (CounterInvariant fails xs workers) id v (fresh v.start (v.workers - 1)) (fresh v.start 1)
  cuts xs workers id v start m is some_part = subst (λ (u : Progress T). Splits (CounterInvariant fails xs workers) id u (fresh u.start (u.workers - 1)) (fresh u.start 1)) (sym is)
      (λ s k at.
      let l : Progress T = fresh start (m - 1) in
      let whole : start ≡ xs = (k.fits id (fresh start m) at).start some_part in
      let both = λ (g : Progress T → ℕ). sum_of-append g (set s.views id l) (fresh start 1 ∷ []) in
      record {
        n = k.n;
        flag = k.flag;
        owner = k.owner;
        words = k.words;
        flag_is = k.flag_is;
        sized = k.sized;
        small = k.small;
        workers_are = omega (arith, both (λ (u : Progress T). u.workers), sum_of_set (λ (u : Progress T). u.workers) s.views id (fresh start m) l at, k.workers_are);
        bound = omega (arith, both (λ (u : Progress T). u.misses), sum_of_set (λ (u : Progress T). u.misses) s.views id (fresh start m) l at, k.bound);
        counted = λ f. omega (arith, both (drawn f), sum_of_set (drawn f) s.views id (fresh start m) l at, k.counted f);
        untouched = k.untouched;
        lent = λ j e. let o = k.lent j e in let p = out_else s.views id (k.owner j) j l (not_mine s.views id (k.owner j) j (fresh start m) at refl o) o in (p.0, at_longer (set s.views id l) (fresh start 1 ∷ []) (k.owner j) p.0 p.1, p.2, p.3, p.4, p.5);
        stop = k.stop;
        fits = λ j u e. ⊎_elim
            (λ was. fits_set (ProgressFits xs k.owner k.n k.flag s.homes) s.views id l (fits_fresh xs k.owner k.n k.flag s.homes id start (m - 1) (λ _. whole)) (λ i y ne e'. k.fits i y e') j u was)
            (λ new. subst (ProgressFits xs k.owner k.n k.flag s.homes j) new (fits_fresh xs k.owner k.n k.flag s.homes j start 1 (λ _. whole)))
            (at_snoc (set s.views id l) (fresh start 1) u j e);
      })

  pub merges : (xs : List T) (workers id : ℕ) (v : Progress T) (other : ℕ) (u : Progress T) → v.claimed ≡ [] → u.claimed ≡ [] → 0 < v.workers → Joins (CounterInvariant fails xs workers) id v other u (joined v u) (fresh [] 0)
  merges xs workers id v other u free free' some_part s k at apart there =
      let b : Progress T = joined v u in
      let was : get_elem? s.views other ≡ some u = sym (set_else s.views id other b apart) ∙ there in
      let f = k.fits id v at in
      let f' = k.fits other u was in
      let one = λ (g : Progress T → ℕ). sum_of_set g s.views id v b at in
      let two = λ (g : Progress T → ℕ). sum_of_set g (set s.views id b) other u (fresh [] 0) there in
      record {
        n = k.n;
        flag = k.flag;
        owner = k.owner;
        words = k.words;
        flag_is = k.flag_is;
        sized = k.sized;
        small = k.small;
        workers_are = omega (arith, one (λ (y : Progress T). y.workers), two (λ (y : Progress T). y.workers), k.workers_are);
        bound = omega (arith, one (λ (y : Progress T). y.misses), two (λ (y : Progress T). y.misses), k.bound);
        counted = λ g. omega (arith, one (drawn g), two (drawn g), k.counted g, sum_of-append (λ (p : Entry T). g p.0) u.log v.log, ap (sum_of (λ (x : ℕ × T). g x.0)) free, ap (sum_of (λ (x : ℕ × T). g x.0)) free');
        untouched = k.untouched;
        lent = λ j e. let o = k.lent j e in
            out_else (set s.views id b) other (k.owner j) j (fresh [] 0) (not_mine s.views other (k.owner j) j u was free' o) (out_else s.views id (k.owner j) j b (not_mine s.views id (k.owner j) j v at free o) o);
        stop = k.stop;
        fits = fits_set (ProgressFits xs k.owner k.n k.flag s.homes) (set s.views id b) other (fresh [] 0) (fits_fresh xs k.owner k.n k.flag s.homes other [] 0 (λ z. absurd (omega (arith, z))))
            (λ j y ne e. fits_set (ProgressFits xs k.owner k.n k.flag s.homes) s.views id b
            (record {
              misses = omega (arith, f.misses, f'.misses);
              start = λ _. f.start some_part;
              idle = λ z. (refl, ap₂ ◌++◌ (f'.idle (omega (arith, z))).1 (f.idle (omega (arith, z))).1);
              drawn_below = f.drawn_below;
              finished = f.finished;
              out = λ i x e'. absurd (some-ne-none x (sym e'));
              back = λ i p e'. ⊎_elim (λ a. f'.back i p a) (λ (a : (t : ℕ) × (get_elem? v.log t ≡ some p)). f.back a.0 p a.1) (at_append u.log v.log i p e');
            })
            (λ i z ne' e'. k.fits i z e') j y e);
      }

  pub begins : (xs : List T) (workers : ℕ) → length xs + workers < 2 ^ 64 → CounterInvariant fails xs workers (opening (0 ∷ 0 ∷ []) xs (fresh xs workers))
  begins xs workers small = record {
    n = 0;
    flag = 0;
    owner = λ _. 0;
    words = refl;
    flag_is = omega arith;
    sized = length-map some xs;
    small = small;
    workers_are = omega arith;
    bound = omega arith;
    counted = λ f. let m : 0 ≡ min 0 (length xs) = omega arith in ap (sum_below f) m;
    untouched = λ k x _ e. at_map some xs k x e;
    lent = λ k e. let t = at_map_from some xs k none e in absurd (some-ne-none t.0 t.2);
    stop = λ p. absurd (omega arith);
    fits = one;
  }
    where
      one : (j : ℕ) (v : Progress T) → get_elem? (fresh xs workers ∷ []) j ≡ some v → ProgressFits xs (λ _. 0) 0 0 (map some xs) j v
      one zero v e = subst (ProgressFits xs (λ _. 0) 0 0 (map some xs) 0) (some-injective _ _ e) (fits_fresh xs (λ _. 0) 0 0 (map some xs) 0 xs workers (λ _. refl))
      one (suc j) v e = absurd (some-ne-none v (sym e))

  -- What the seat with all parts knows at the end
  pub ends : (xs ys : List T) (ws : List ℕ) (workers id : ℕ) (v : Progress T) → v.workers ≡ workers → v.claimed ≡ [] → v.finished ≡ true → Final (Seen (CounterInvariant fails xs workers) id v) ws ys → Settled fails xs ys v.log
  ends xs ys ws workers id v all free finished e = record {
    n = min k.n (length xs);
    within = omega arith;
    same_length = sym (e.3) ∙ k.sized;
    counted = λ f. omega (arith, k.counted f, sum_of_alone (drawn f) s.views id v at (λ j u ne u-at. let i = (k.fits j u u-at).idle (idle j u ne u-at) in omega (arith, ap (sum_of (λ (x : ℕ × T). f x.0)) i.0, ap (sum_of (λ (p : Entry T). f p.0)) i.1)), ap (sum_of (λ (x : ℕ × T). f x.0)) free);
    logged = λ i p p-at. let b = (k.fits id v at).back i p p-at in (omega (arith, b.0, inside p.0 p.1 b.2), b.2, e.4 p.0 p.2 b.1);
    left = λ j x le x-at. e.4 j x (k.untouched j x (omega (arith, le, inside j x x-at)) x-at);
    stop = λ lt. ⊎_elim (λ (a : length xs ≤ k.n). absurd (omega (arith, a, lt))) (λ (b : 0 < k.flag). let h = k.stop b in (h.0, h.1, omega (arith, h.2, lt), e.4 h.0 h.1 h.3, h.4)) ((k.fits id v at).finished finished);
  }
    where
      s : State T (Progress T)
      s = e.0

      k : CounterInvariant fails xs workers e.0
      k = e.1.0

      at : get_elem? e.0.views id ≡ some v
      at = e.1.1

      idle : (j : ℕ) (u : Progress T) → j ≢ id → get_elem? e.0.views j ≡ some u → u.workers ≡ 0
      idle j u ne u-at = sum_of_others (λ (y : Progress T). y.workers) e.0.views id j v u e.1.1 (omega (arith, e.1.0.workers_are, all)) ne u-at

      inside : (j : ℕ) (x : T) → get_elem? xs j ≡ some x → j < length xs
      inside j x x-at = at_lt xs j x x-at
