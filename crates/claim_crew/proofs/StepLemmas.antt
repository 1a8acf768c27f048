-- Each step of a worker keeps the rule: a draw, a look at the flag, and the setting of the flag.
use Rattle.std.proofs.Common.{◌≡◌, ◌≢◌, ℕ, zero, suc, ◌+◌, ◌<◌, ◌≤◌, ◌%◌, ◌^◌, ◌⊎◌, inl, inr, Bool, true, true≢false, cond, eqb, eq-eqb, ne_eqb, min, List, [], ◌∷◌, ◌++◌, map, length, set, refl, sym, ap, ◌∙◌, subst, ⊎_elim, arith, length-set, bit_or}
use Rattle.std.specs.Prelude.{slice_index, slice_set}
use mathlib.Core.Option.{Option, some, none, some-injective, some-ne-none}
use mathlib.Core.Logic.{dite}
use native.Mathlib.Decide.{dec_lt, ℕ_discrete}
use lib.ListN.{get_elem?}
use Rattle.atomic_table.specs.Table.{State, Me, Act, keeps, takes, gives, step, Allows, stepped, Valid, carried_after, rest}
use Rattle.atomic_table.proofs.Lists.{at_set, set_else}
use Rattle.claim_crew.specs.declared.rule.Progress.{Progress}
use Rattle.claim_crew.specs.Claimed.{sum_of, sum_below}
use Rattle.claim_crew.specs.Rule.{is_positive, holding, passed, settled, Drew, Looked, Stopped, drawn, ProgressFits, Entry, IsOut, CounterInvariant, Holds, processed}
use Rattle.claim_crew.proofs.SumLemmas.{sum_of-append, sum_of_set, sum_of_lt, at_append, set_there, at_below, sum_of-map, at_map_from}

positive : (n : ℕ) → is_positive n ≡ true → 0 < n
positive zero e = absurd (true≢false (sym e))
positive (suc n) e = omega arith

or_one : (m : ℕ) → m ≤ 1 → bit_or m 1 ≡ 1
or_one zero le = refl
or_one (suc zero) le = refl
or_one (suc (suc m)) le = absurd (omega arith)

module _ {T : Type 0} where
  -- what holds of each view holds once one of them is changed
  pub fits_set : (P : ℕ → Progress T → Type 0) (views : List (Progress T)) (id : ℕ) (w : Progress T) → P id w → ((j : ℕ) (u : Progress T) → j ≢ id → get_elem? views j ≡ some u → P j u) → (j : ℕ) (u : Progress T) → get_elem? (set views id w) j ≡ some u → P j u
  fits_set P views id w mine others j u e =
      ⊎_elim
      (λ (x : (j ≡ id) × (w ≡ u)). subst (λ (y : ℕ × Progress T). P y.0 y.1) (λ i. (sym x.0 i, x.1 i)) mine)
      (λ (x : (j ≢ id) × (get_elem? views j ≡ some u)). others j u x.0 x.1)
      (at_set views id j w u e)

  -- what the rule says of a view stays true where the slots that it speaks of stay
  stays : (xs : List T) (owner owner' : ℕ → ℕ) (n n' flag flag' : ℕ) (homes homes' : List (Option T)) (j : ℕ) (v : Progress T) → n ≤ n' → flag ≤ flag'
      → ((m : ℕ) → m < n → owner m ≡ j → get_elem? homes m ≡ some none → (owner' m ≡ owner m) × (get_elem? homes' m ≡ some none))
      → ((m : ℕ) (y : T) → m < n → get_elem? homes m ≡ some (some y) → get_elem? homes' m ≡ some (some y))
      → ProgressFits xs owner n flag homes j v → ProgressFits xs owner' n' flag' homes' j v
  stays xs owner owner' n n' flag flag' homes homes' j v more raised out back f = record {
    misses = f.misses;
    start = f.start;
    idle = f.idle;
    drawn_below = omega (arith, f.drawn_below);
    finished = λ is. ⊎_elim (λ (a : length xs ≤ n). inl (omega arith)) (λ (b : 0 < flag). inr (omega arith)) (f.finished is);
    out = λ i x at. let o = f.out i x at in let k = out x.0 o.1 o.0 o.2 in (k.0 ∙ o.0, omega (arith, o.1), k.1, o.3);
    back = λ i p at. let o = f.back i p at in (omega (arith, o.0), back p.0 p.2 o.0 o.1, o.2);
  }

  -- an item that another seat has stays with it
  pub out_else : (views : List (Progress T)) (id j k : ℕ) (w : Progress T) → j ≢ id → IsOut views j k → IsOut (set views id w) j k
  out_else views id j k w ne o = (o.0, set_else views id j w ne ∙ o.1, o.2, o.3, o.4, o.5)

  only_one : (x y : ℕ × T) (i : ℕ) → get_elem? (x ∷ []) i ≡ some y → x ≡ y
  only_one x y zero e = some-injective x y e
  only_one x y (suc i) e = absurd (some-ne-none y (sym e))

module _ {T : Type 0} (fails : T → Bool) where
  -- a draw of the number of a slot
  module _ (xs : List T) (workers : ℕ) (id : ℕ) (v : Progress T) (c : List (ℕ × T)) (free : v.claimed ≡ []) (may : v.misses < v.workers) where
    none_claimed : (i : ℕ) (x : ℕ × T) → get_elem? v.claimed i ≡ some x → ⊥
    none_claimed i x at = some-ne-none x (sym (subst (λ (l : List (ℕ × T)). get_elem? l i ≡ some x) free at))

    next_is : (s : State T (Progress T)) (k : CounterInvariant fails xs workers s) → get_elem? s.views id ≡ some v → slice_set s.words 0 ((slice_index s.words 0 + 1) % 2 ^ 64) ≡ (k.n + 1) ∷ k.flag ∷ []
    next_is s k at =
        let lt = sum_of_lt (λ (u : Progress T). u.misses) (λ (u : Progress T). u.workers) s.views id v at may (λ j u e. (k.fits j u e).misses) in
        let small : k.n + 1 < 2 ^ 64 = omega (arith, lt, k.bound, k.workers_are, k.small) in
        ap (λ l. slice_set l 0 ((slice_index l 0 + 1) % 2 ^ 64)) k.words ∙ ap (λ (m : ℕ). m ∷ k.flag ∷ []) (omega (arith, small))

    draws_in : (s : State T (Progress T)) (k : CounterInvariant fails xs workers s) → get_elem? s.views id ≡ some v → (x : T) → get_elem? xs k.n ≡ some x
        → k.n < length xs → CounterInvariant fails xs workers (stepped s 0 ((slice_index s.words 0 + 1) % 2 ^ 64) id c (holding v k.n x) (takes k.n x))
    draws_in s k at x x-at lt = record {
      n = k.n + 1;
      flag = k.flag;
      owner = owner';
      words = next_is s k at;
      flag_is = k.flag_is;
      sized = length-set s.homes k.n none ∙ k.sized;
      small = k.small;
      workers_are = omega (arith, sum_of_set (λ (u : Progress T). u.workers) s.views id v w at, k.workers_are);
      bound = omega (arith, sum_of_set (λ (u : Progress T). u.misses) s.views id v w at, k.bound, lt);
      counted = counts;
      untouched = λ m y le m-at. set_else s.homes k.n m none (λ e. omega (arith, e, le)) ∙ k.untouched m y (omega arith) m-at;
      lent = lends;
      stop = λ p. let h = k.stop p in (h.0, h.1, omega (arith, h.2), set_else s.homes k.n h.0 none (λ e. omega (arith, e, h.2)) ∙ h.3, h.4);
      fits = fits_set (ProgressFits xs owner' (k.n + 1) k.flag homes') s.views id w mine (λ j u ne e. stays xs k.owner owner' k.n (k.n + 1) k.flag k.flag s.homes homes' j u (omega arith) (omega arith)
          (λ m lo _ is. (old m lo, kept m lo ∙ is)) (λ m y lo is. kept m lo ∙ is) (k.fits j u e));
    }
      where
        w : Progress T
        w = holding v k.n x

        homes' : List (Option T)
        homes' = set s.homes k.n none

        owner' : ℕ → ℕ
        owner' m = cond (eqb m k.n) id (k.owner m)

        old : (m : ℕ) → m < k.n → cond (eqb m k.n) id (k.owner m) ≡ k.owner m
        old m lo = ap (λ b. cond b id (k.owner m)) (ne_eqb m k.n (λ e. omega (arith, e, lo)))

        kept : (m : ℕ) → m < k.n → get_elem? (set s.homes k.n none) m ≡ get_elem? s.homes m
        kept m lo = set_else s.homes k.n m none (λ e. omega (arith, e, lo))

        counts : (f : ℕ → ℕ) → sum_of (drawn f) (set s.views id (holding v k.n x)) ≡ sum_below f (min (k.n + 1) (length xs))
        counts f =
            let grown : drawn f (holding v k.n x) ≡ drawn f v + f k.n = omega (arith, ap (sum_of (λ (y : ℕ × T). f y.0)) free) in
            let m : min (k.n + 1) (length xs) ≡ suc k.n = omega (arith, lt) in
            let m' : min k.n (length xs) ≡ k.n = omega (arith, lt) in
            let up : sum_below f (min (k.n + 1) (length xs)) ≡ sum_below f k.n + f k.n = ap (sum_below f) m in
            let at_n : sum_below f (min k.n (length xs)) ≡ sum_below f k.n = ap (sum_below f) m' in
            omega (arith, sum_of_set (drawn f) s.views id v (holding v k.n x) at, k.counted f, grown, up, at_n)

        lends : (m : ℕ) → get_elem? (set s.homes k.n none) m ≡ some none → IsOut (set s.views id (holding v k.n x)) (cond (eqb m k.n) id (k.owner m)) m
        lends m is = ⊎_elim
            (λ (e : (m ≡ k.n) × (none ≡ none)). subst (λ (j : ℕ). IsOut (set s.views id (holding v k.n x)) j m) (sym (ap (λ b. cond b id (k.owner m)) (eq-eqb m k.n e.0))) (holding v k.n x, set_there s.views id (holding v k.n x) v at, 0, (k.n, x), refl, sym e.0))
            (λ (e : (m ≢ k.n) × (get_elem? s.homes m ≡ some none)). subst (λ (j : ℕ). IsOut (set s.views id (holding v k.n x)) j m) (sym (ap (λ b. cond b id (k.owner m)) (ne_eqb m k.n e.0)))
            (let o = k.lent m e.1 in out_else s.views id (k.owner m) m (holding v k.n x) (λ same. none_claimed o.2 o.3 (subst (λ (u : Progress T). get_elem? u.claimed o.2 ≡ some o.3) (some-injective _ _ (sym o.1 ∙ (ap (get_elem? s.views) same ∙ at))) o.4)) o))
            (at_set s.homes k.n m none none is)

        mine : ProgressFits xs (λ m. cond (eqb m k.n) id (k.owner m)) (k.n + 1) k.flag (set s.homes k.n none) id (holding v k.n x)
        mine =
            let f = stays xs k.owner (λ m. cond (eqb m k.n) id (k.owner m)) k.n (k.n + 1) k.flag k.flag s.homes (set s.homes k.n none) id v (omega arith) (omega arith)
            (λ m lo _ is. (old m lo, kept m lo ∙ is)) (λ m y lo is. kept m lo ∙ is) (k.fits id v at) in
            record {
              misses = f.misses;
              start = f.start;
              idle = λ z. absurd (omega (arith, z, may));
              drawn_below = omega arith;
              finished = f.finished;
              out = λ i y e. subst (λ (z : ℕ × T). (cond (eqb z.0 k.n) id (k.owner z.0) ≡ id) × (z.0 < k.n + 1) × (get_elem? (set s.homes k.n none) z.0 ≡ some none) × (get_elem? xs z.0 ≡ some z.1)) (only_one (k.n, x) y i e) (
                ap (λ b. cond b id (k.owner k.n)) (eq-eqb k.n k.n refl),
                omega arith,
                set_there s.homes k.n none (some x) (k.untouched k.n x (omega arith) x-at),
                x-at,
              );
              back = f.back;
            }

    draws_past : (s : State T (Progress T)) (k : CounterInvariant fails xs workers s) → get_elem? s.views id ≡ some v → length xs ≤ k.n
        → CounterInvariant fails xs workers (stepped s 0 ((slice_index s.words 0 + 1) % 2 ^ 64) id c (passed v k.n) keeps)
    draws_past s k at past = record {
      n = k.n + 1;
      flag = k.flag;
      owner = k.owner;
      words = next_is s k at;
      flag_is = k.flag_is;
      sized = k.sized;
      small = k.small;
      workers_are = omega (arith, sum_of_set (λ (u : Progress T). u.workers) s.views id v w at, k.workers_are);
      bound = omega (arith, sum_of_set (λ (u : Progress T). u.misses) s.views id v w at, k.bound);
      counted = counts;
      untouched = λ m y le m-at. k.untouched m y (omega arith) m-at;
      lent = λ m is. let o = k.lent m is in out_else s.views id (k.owner m) m (passed v k.n) (λ same. none_claimed o.2 o.3 (subst (λ (u : Progress T). get_elem? u.claimed o.2 ≡ some o.3) (some-injective _ _ (sym o.1 ∙ (ap (get_elem? s.views) same ∙ at))) o.4)) o;
      stop = λ p. let h = k.stop p in (h.0, h.1, omega (arith, h.2), h.3, h.4);
      fits = fits_set (ProgressFits xs k.owner (k.n + 1) k.flag s.homes) s.views id w mine (λ j u ne e. still j u (k.fits j u e));
    }
      where
        w : Progress T
        w = passed v k.n

        still : (j : ℕ) (u : Progress T) → ProgressFits xs k.owner k.n k.flag s.homes j u → ProgressFits xs k.owner (k.n + 1) k.flag s.homes j u
        still j u f = stays xs k.owner k.owner k.n (k.n + 1) k.flag k.flag s.homes s.homes j u (omega arith) (omega arith) (λ m lo _ is. (refl, is)) (λ m y lo is. is) f

        counts : (f : ℕ → ℕ) → sum_of (drawn f) (set s.views id (passed v k.n)) ≡ sum_below f (min (k.n + 1) (length xs))
        counts f =
            let m : min (k.n + 1) (length xs) ≡ min k.n (length xs) = omega (arith, past) in
            let up : sum_below f (min (k.n + 1) (length xs)) ≡ sum_below f (min k.n (length xs)) = ap (sum_below f) m in
            omega (arith, sum_of_set (drawn f) s.views id v (passed v k.n) at, k.counted f, up)

        mine : ProgressFits xs k.owner (k.n + 1) k.flag s.homes id (passed v k.n)
        mine =
            let f = still id v (k.fits id v at) in
            record {
              misses = omega (arith, may);
              start = f.start;
              idle = λ z. absurd (omega (arith, z, may));
              drawn_below = omega arith;
              finished = λ _. inl (omega (arith, past));
              out = f.out;
              back = f.back;
            }

  abbrev Draws : List T → ℕ → ℕ → ℕ → Me T (Progress T) → State T (Progress T) → Type 0
  Draws xs workers slots id me s = (w : Progress T) × (a : Act T) × Valid s.homes me.1 a × CounterInvariant fails xs workers (stepped s 0 ((slice_index s.words 0 + 1) % 2 ^ 64) id me.1 w a)
      × Drew (step slots 0 1 0 none) me (slice_index s.words 0) (w, carried_after me.1 a)

  pub draws : (xs : List T) (workers slots id : ℕ) (me : Me T (Progress T)) → length xs ≡ slots → me.0.claimed ≡ [] → me.0.misses < me.0.workers
      → Allows (CounterInvariant fails xs workers) slots id me 0 (λ n. (n + 1) % 2 ^ 64) (Drew (step slots 0 1 0 none) me)
  draws xs workers slots id me len free may s k homes at _ = dite (dec_lt k.n slots) inside beyond
    where
      found : slice_index s.words 0 ≡ k.n
      found = ap (λ l. slice_index l 0) k.words

      inside : k.n < slots → Draws xs workers slots id me s
      inside lt =
          let lt' : k.n < length xs = omega (arith, lt, len) in
          let t = at_below xs k.n lt' in
          let tells : Drew (step slots 0 1 0 none) me k.n (holding me.0 k.n t.0, (k.n, t.0) ∷ me.1) =
          ((k.fits id me.0 at).drawn_below, (λ _. (t.0, subst (λ (l : List T). get_elem? l k.n ≡ some t.0) (sym ((k.fits id me.0 at).start (omega (arith, may)))) t.1, refl)), λ past. absurd (omega (arith, past, lt))) in (
            holding me.0 k.n t.0,
            takes k.n t.0,
            k.untouched k.n t.0 (omega arith) t.1,
            draws_in xs workers id me.0 me.1 free may s k at t.0 t.1 lt',
            subst (λ (m : ℕ). Drew (step slots 0 1 0 none) me m (holding me.0 k.n t.0, (k.n, t.0) ∷ me.1)) (sym found) tells,
          )

      beyond : (k.n < slots → ⊥) → Draws xs workers slots id me s
      beyond not =
          let past : slots ≤ k.n = omega (arith, not) in
          let tells : Drew (step slots 0 1 0 none) me k.n (passed me.0 k.n, me.1) = ((k.fits id me.0 at).drawn_below, (λ lt. absurd (not lt)), λ _. refl) in (
            passed me.0 k.n,
            keeps,
            tt,
            draws_past xs workers id me.0 me.1 free may s k at (omega (arith, past, len)),
            subst (λ (m : ℕ). Drew (step slots 0 1 0 none) me m (passed me.0 k.n, me.1)) (sym found) tells,
          )

  -- a slot is put back, and the flag becomes what it is now or is set
  module _ (xs : List T) (workers : ℕ) (id : ℕ) (v : Progress T) (num : ℕ) (y : T) (only : (i : ℕ) (x : ℕ × T) → get_elem? v.claimed i ≡ some x → x.0 ≡ num) (there : 0 < length v.claimed) where
    puts : (s : State T (Progress T)) (k : CounterInvariant fails xs workers s) → get_elem? s.views id ≡ some v → (finished : Bool) (new flag : ℕ) → new ≡ flag → k.flag ≤ flag → flag ≤ 1
        → (finished ≡ true → 0 < flag) → (0 < flag → (0 < k.flag) ⊎ (fails y ≡ true))
        → CounterInvariant fails xs workers (stepped s 1 new id ((num, y) ∷ []) (settled v finished ((num, y) ∷ [])) gives)
    puts s k at finished new flag is raised one seen why = record {
      n = k.n;
      flag = flag;
      owner = k.owner;
      words = ap (λ l. slice_set l 1 new) k.words ∙ ap (λ (m : ℕ). k.n ∷ m ∷ []) is;
      flag_is = one;
      sized = length-set s.homes num (some y) ∙ k.sized;
      small = k.small;
      workers_are = omega (arith, sum_of_set (λ (u : Progress T). u.workers) s.views id v w at, k.workers_are);
      bound = omega (arith, sum_of_set (λ (u : Progress T). u.misses) s.views id v w at, k.bound);
      counted = λ f. omega (arith, sum_of_set (drawn f) s.views id v w at, k.counted f, same f);
      untouched = λ m z le m-at. set_else s.homes num m (some y) (λ e. omega (arith, e, le, mine.1)) ∙ k.untouched m z le m-at;
      lent = lends;
      stop = λ p. ⊎_elim
          (λ (q : 0 < k.flag). let h = k.stop q in (h.0, h.1, h.2, set_else s.homes num h.0 (some y) (λ e. differ h.1 (sym h.3 ∙ ap (get_elem? s.homes) e)) ∙ h.3, h.4))
          (λ (bad : fails y ≡ true). (num, y, mine.1, set_there s.homes num (some y) none mine.2, bad))
          (why p);
      fits = fits_set (ProgressFits xs k.owner k.n flag homes') s.views id w me (λ j u ne e. stays xs k.owner k.owner k.n k.n k.flag flag s.homes homes' j u (omega arith) raised
          (λ m lo own is. (refl, set_else s.homes num m (some y) (λ e'. ne (sym own ∙ ap k.owner e' ∙ mine.0)) ∙ is))
          (λ m z lo is. set_else s.homes num m (some y) (λ e'. differ z (sym is ∙ ap (get_elem? s.homes) e')) ∙ is)
          (k.fits j u e));
    }
      where
        w : Progress T
        w = settled v finished ((num, y) ∷ [])

        homes' : List (Option T)
        homes' = set s.homes num (some y)

        first : (x : ℕ × T) × (get_elem? v.claimed 0 ≡ some x)
        first = at_below v.claimed 0 there

        mine : (k.owner num ≡ id) × (num < k.n) × (get_elem? s.homes num ≡ some none)
        mine = let o = (k.fits id v at).out 0 first.0 first.1 in subst (λ (m : ℕ). (k.owner m ≡ id) × (m < k.n) × (get_elem? s.homes m ≡ some none)) (only 0 first.0 first.1) (o.0, o.1, o.2)

        differ : (z : T) → some (some z) ≡ get_elem? s.homes num → ⊥
        differ z e = some-ne-none z (some-injective _ _ (e ∙ mine.2))

        same : (f : ℕ → ℕ) → drawn f (settled v finished ((num, y) ∷ [])) ≡ drawn f v
        same f = omega (arith, sum_of-append (λ (p : Entry T). f p.0) v.log (map (λ x. (x.0, x.1, y)) v.claimed), sum_of-map (λ (p : Entry T). f p.0) (λ (x : ℕ × T). (x.0, x.1, y)) v.claimed)

        lends : (m : ℕ) → get_elem? (set s.homes num (some y)) m ≡ some none → IsOut (set s.views id (settled v finished ((num, y) ∷ []))) (k.owner m) m
        lends m e = ⊎_elim
            (λ (t : (m ≡ num) × (some y ≡ none)). absurd (some-ne-none y t.1))
            (λ (t : (m ≢ num) × (get_elem? s.homes m ≡ some none)).
            let o = k.lent m t.1 in
            out_else s.views id (k.owner m) m (settled v finished ((num, y) ∷ [])) (λ same. t.0 (sym o.5 ∙ only o.2 o.3 (subst (λ (u : Progress T). get_elem? u.claimed o.2 ≡ some o.3) (some-injective _ _ (sym o.1 ∙ (ap (get_elem? s.views) same ∙ at))) o.4))) o)
            (at_set s.homes num m (some y) none e)

        me : ProgressFits xs k.owner k.n flag (set s.homes num (some y)) id (settled v finished ((num, y) ∷ []))
        me = let f = k.fits id v at in record {
          misses = f.misses;
          start = f.start;
          idle = λ z. absurd (some-ne-none first.0 (sym (subst (λ (l : List (ℕ × T)). get_elem? l 0 ≡ some first.0) (f.idle z).0 first.1)));
          drawn_below = f.drawn_below;
          finished = λ e. inr (seen e);
          out = λ i x e. absurd (some-ne-none x (sym e));
          back = λ i p e. ⊎_elim
              (λ (a : get_elem? v.log i ≡ some p). let o = f.back i p a in (o.0, set_else s.homes num p.0 (some y) (λ e'. differ p.2 (sym o.1 ∙ ap (get_elem? s.homes) e')) ∙ o.1, o.2))
              (λ (a : (j : ℕ) × (get_elem? (map (λ x. (x.0, x.1, y)) v.claimed) j ≡ some p)).
              let t = at_map_from (λ (x : ℕ × T). (x.0, x.1, y)) v.claimed a.0 p a.1 in
              let o = f.out a.0 t.0 t.1 in
              subst (λ (q : Entry T). (q.0 < k.n) × (get_elem? (set s.homes num (some y)) q.0 ≡ some (some q.2)) × (get_elem? xs q.0 ≡ some q.1)) t.2
              (o.1, subst (λ (m : ℕ). get_elem? (set s.homes num (some y)) m ≡ some (some y)) (sym (only a.0 t.0 t.1)) (set_there s.homes num (some y) none mine.2), o.3))
              (at_append v.log (map (λ x. (x.0, x.1, y)) v.claimed) i p e);
        }

  pub looks : (xs : List T) (workers slots id : ℕ) (me : Me T (Progress T)) (num : ℕ) (y : T) → me.1 ≡ (num, y) ∷ []
      → ((i : ℕ) (x : ℕ × T) → get_elem? me.0.claimed i ≡ some x → x.0 ≡ num) → 0 < length me.0.claimed
      → Allows (CounterInvariant fails xs workers) slots id me 1 (λ n. n) (Looked (step slots 1 0 0 none) me)
  looks xs workers slots id me num y is only there = subst (λ (c : List (ℕ × T)). Allows (CounterInvariant fails xs workers) slots id (me.0, c) 1 (λ n. n) (Looked (step slots 1 0 0 none) (me.0, c))) (sym is)
      (λ s k homes at _.
      let found : slice_index s.words 1 ≡ k.flag = ap (λ l. slice_index l 1) k.words in (
        settled me.0 (is_positive (slice_index s.words 1)) ((num, y) ∷ []),
        gives,
        tt,
        puts xs workers id me.0 num y only there s k at (is_positive (slice_index s.words 1)) (slice_index s.words 1) k.flag found (omega arith) k.flag_is
            (λ e. positive k.flag (ap is_positive (sym found) ∙ e)) (λ p. inl p),
        refl,
      ))

  pub stops : (xs : List T) (workers slots id : ℕ) (me : Me T (Progress T)) (num : ℕ) (y : T) → me.1 ≡ (num, y) ∷ [] → fails y ≡ true
      → ((i : ℕ) (x : ℕ × T) → get_elem? me.0.claimed i ≡ some x → x.0 ≡ num) → 0 < length me.0.claimed
      → Allows (CounterInvariant fails xs workers) slots id me 1 (λ n. bit_or n 1) (Stopped (step slots 1 1 0 none) me)
  stops xs workers slots id me num y is bad only there = subst (λ (c : List (ℕ × T)). Allows (CounterInvariant fails xs workers) slots id (me.0, c) 1 (λ n. bit_or n 1) (Stopped (step slots 1 1 0 none) (me.0, c))) (sym is)
      (λ s k homes at _.
      let found : slice_index s.words 1 ≡ k.flag = ap (λ l. slice_index l 1) k.words in (
        settled me.0 true ((num, y) ∷ []),
        gives,
        tt,
        puts xs workers id me.0 num y only there s k at true (bit_or (slice_index s.words 1) 1) 1 (ap (λ (m : ℕ). bit_or m 1) found ∙ or_one k.flag k.flag_is) k.flag_is (omega arith)
            (λ _. omega arith) (λ _. inr bad),
        refl,
      ))

  -- a look with no slot
  pub glances : (xs : List T) (workers slots id : ℕ) (me : Me T (Progress T)) → me.1 ≡ []
      → Allows (CounterInvariant fails xs workers) slots id me 1 (λ n. n) (Looked (step slots 1 0 0 none) me)
  glances xs workers slots id me is = subst (λ (c : List (ℕ × T)). Allows (CounterInvariant fails xs workers) slots id (me.0, c) 1 (λ n. n) (Looked (step slots 1 0 0 none) (me.0, c))) (sym is)
      (λ s k homes at _.
      let found : slice_index s.words 1 ≡ k.flag = ap (λ l. slice_index l 1) k.words in
      let w : Progress T = settled me.0 (is_positive (slice_index s.words 1)) [] in
      let f = k.fits id me.0 at in (
        w,
        keeps,
        tt,
        record {
          n = k.n;
          flag = k.flag;
          owner = k.owner;
          words = ap (λ l. slice_set l 1 (slice_index l 1)) k.words;
          flag_is = k.flag_is;
          sized = k.sized;
          small = k.small;
          workers_are = omega (arith, sum_of_set (λ (u : Progress T). u.workers) s.views id me.0 w at, k.workers_are);
          bound = omega (arith, sum_of_set (λ (u : Progress T). u.misses) s.views id me.0 w at, k.bound);
          counted = λ g. omega (arith, sum_of_set (drawn g) s.views id me.0 w at, k.counted g);
          untouched = k.untouched;
          lent = λ m e. glanced s.views id m (k.owner m) me.0 (is_positive (slice_index s.words 1)) at (k.lent m e);
          stop = k.stop;
          fits = fits_set (ProgressFits xs k.owner k.n k.flag s.homes) s.views id w
              (record { misses = f.misses; start = f.start; idle = f.idle; drawn_below = f.drawn_below; finished = λ e. inr (positive k.flag (ap is_positive (sym found) ∙ e)); out = f.out; back = f.back })
              (λ j u ne e. k.fits j u e);
        },
        refl,
      ))
    where
      glanced : (views : List (Progress T)) (id m j : ℕ) (v : Progress T) (b : Bool) → get_elem? views id ≡ some v → IsOut views j m → IsOut (set views id (settled v b [])) j m
      glanced views id m j v b at o = dite (ℕ_discrete j id)
          (λ e. subst (λ (i : ℕ). IsOut (set views id (settled v b [])) i m) (sym e)
          (settled v b [], set_there views id (settled v b []) v at, o.2, o.3, subst (λ (u : Progress T). get_elem? u.claimed o.2 ≡ some o.3) (some-injective _ _ (sym o.1 ∙ (ap (get_elem? views) e ∙ at))) o.4, o.5))
          (λ ne. out_else views id j m (settled v b []) ne o)

module _ {T : Type 0} where
  pub only_claimed : (claimed : List (ℕ × T)) (x : T) (num : ℕ) → claimed ≡ (num, x) ∷ [] → (i : ℕ) (y : ℕ × T) → get_elem? claimed i ≡ some y → y.0 ≡ num
  only_claimed claimed x num is i y at = ap (λ (z : ℕ × T). z.0) (sym (only_one (num, x) y i (subst (λ (l : List (ℕ × T)). get_elem? l i ≡ some y) is at)))

  pub one_claimed : (claimed : List (ℕ × T)) (x : ℕ × T) → claimed ≡ x ∷ [] → 0 < length claimed
  one_claimed claimed x is = omega (arith, ap length is)

  -- what a step that puts the item back leaves, once it was worked on
  pub settles : (old me : Me T (Progress T)) (k : ℕ) (x y : T) (b : Bool) → me.0 ≡ old.0 → Holds k me x y → ◌≡◌ {A = Me T (Progress T)} (settled me.0 b me.1, rest me.1) (processed old.0 k x y b, [])
  settles old me k x y b same h =
      let one : ◌≡◌ {A = Me T (Progress T)} (settled me.0 b me.1, rest me.1) (settled old.0 b ((k, y) ∷ []), []) = λ i. (settled (same i) b (h.1 i), rest (h.1 i)) in
      let two : ◌≡◌ {A = Me T (Progress T)} (settled old.0 b ((k, y) ∷ []), []) (processed old.0 k x y b, []) =
      ap (λ (t : List (ℕ × T)). (record { start = old.0.start; workers = old.0.workers; misses = old.0.misses; drawn_below = old.0.drawn_below; finished = b; claimed = []; log = old.0.log ++ map (λ z. (z.0, z.1, y)) t }, [])) (ap (λ (v : Progress T). v.claimed) (sym same) ∙ h.0) in
      one ∙ two
