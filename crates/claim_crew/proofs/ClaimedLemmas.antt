-- What the logs of the workers say of the lists.
use Rattle.std.proofs.Common.{◌≡◌, ℕ, zero, suc, inl, inr, List, [], ◌∷◌, ◌++◌, map, length, Bool, refl, sym, ap, ◌∙◌, subst, arith, Some}
use Rattle.std.specs.List.{slice_get}
use Rattle.std.proofs.lemmas.Option.{slice_get_past, none-some}
use mathlib.Core.Option.{some, some-injective, some-ne-none}
use mathlib.Core.Logic.{dite}
use native.Mathlib.Decide.{dec_lt}
use lib.ListN.{get_elem?}
use Rattle.atomic_table.proofs.Lists.{at_longer}
use Rattle.atomic_table.specs.Table.{Me}
use Rattle.claim_crew.specs.declared.rule.Progress.{Progress}
use Rattle.claim_crew.specs.Claimed.{sum_of, joined_all, OnlyLastFails, AllLastFail, Ran, RanAll, Claimed}
use Rattle.claim_crew.specs.Rule.{Entry, Did, DidAll, LastFails, EachLastFails, Settled, Starts, fresh}
use Rattle.claim_crew.proofs.SumLemmas.{sum_of-append, sum_of-map, at_below, at_map_from, length-map}

module _ {A : Type 0} where
  get_of : (l : List A) (i : ℕ) (x : A) → get_elem? l i ≡ some x → slice_get l i ≡ Some x
  get_of [] i x e = absurd (some-ne-none x (sym e))
  get_of (y ∷ ys) zero x e = ap Some (some-injective y x e)
  get_of (y ∷ ys) (suc i) x e = get_of ys i x e

  -- what a place holds is told
  at_of : (l : List A) (i : ℕ) (x : A) → slice_get l i ≡ Some x → get_elem? l i ≡ some x
  at_of [] i x e = absurd (none-some x e)
  at_of (y ∷ ys) zero x e = ap some (grind arith)
  at_of (y ∷ ys) (suc i) x e = at_of ys i x e

module _ {T : Type 0} (xs ys : List T) where
  abbrev Placed : List (Entry T) → Type 0
  Placed log = (i : ℕ) (p : Entry T) → get_elem? log i ≡ some p → (get_elem? xs p.0 ≡ some p.1) × (get_elem? ys p.0 ≡ some p.2)

  placed_first : (l m : List (Entry T)) → Placed (l ++ m) → Placed l
  placed_first l m h i p at = h i p (at_longer l m i p at)

  placed_rest : (l m : List (Entry T)) → Placed (l ++ m) → Placed m
  placed_rest [] m h = h
  placed_rest (x ∷ l) m h = placed_rest l m (λ i. h (suc i))

  last_told : (fails : T → Bool) (log : List (Entry T)) → Placed log → LastFails fails log → OnlyLastFails fails ys (map (λ p. p.0) log)
  last_told fails log h last i k y at y-at bad =
      let t = at_map_from (λ (p : Entry T). p.0) log i k (at_of (map (λ (p : Entry T). p.0) log) i k at) in
      let same : t.0.2 ≡ y = some-injective _ _ (sym (h i t.0 t.1).1 ∙ (ap (get_elem? ys) t.2 ∙ at_of ys k y y-at)) in
      last i t.0 t.1 (ap fails same ∙ bad) ∙ sym (length-map (λ (p : Entry T). p.0) log)

  lasts_told : (fails : T → Bool) (logs : List (List (Entry T))) → Placed (joined_all logs) → EachLastFails fails logs → AllLastFail fails ys (map (map (λ p. p.0)) logs)
  lasts_told fails [] h last = tt
  lasts_told fails (l ∷ ls) h last = (last_told fails l (placed_first l (joined_all ls) h) last.0, lasts_told fails ls (placed_rest l (joined_all ls) h) last.1)

  module _ {H : Type 0} (does : ℕ → T → H → T → H → Type 0) where
    ran_told : (log : List (Entry T)) (d e : H) → Placed log → Did does log d e → Ran does xs ys (map (λ p. p.0) log) d e
    ran_told [] d e h r = r
    ran_told (p ∷ ps) d e h r = (p.1, p.2, r.0, get_of xs p.0 p.1 (h 0 p refl).0, get_of ys p.0 p.2 (h 0 p refl).1, r.1, ran_told ps r.0 e (λ i. h (suc i)) r.2)

    all_told : (logs : List (List (Entry T))) (ds es : List H) → Placed (joined_all logs) → DidAll does logs ds es → RanAll does xs ys (map (map (λ p. p.0)) logs) ds es
    all_told [] [] [] h r = tt
    all_told (l ∷ ls) (d ∷ ds) (e ∷ es) h r = (ran_told l d e (placed_first l (joined_all ls) h) r.0, all_told ls ds es (placed_rest l (joined_all ls) h) r.1)
    all_told [] [] (e ∷ es) h r = absurd r
    all_told [] (d ∷ ds) es h r = absurd r
    all_told (l ∷ ls) [] es h r = absurd r
    all_told (l ∷ ls) (d ∷ ds) [] h r = absurd r

module _ {T : Type 0} where
  once_told : (f : ℕ → ℕ) (logs : List (List (Entry T))) → sum_of f (joined_all (map (map (λ p. p.0)) logs)) ≡ sum_of (λ p. f p.0) (joined_all logs)
  once_told f [] = refl
  once_told f (l ∷ ls) = omega (
    arith,
    sum_of-append f (map (λ (p : Entry T). p.0) l) (joined_all (map (map (λ (p : Entry T). p.0)) ls)),
    sum_of-append (λ (p : Entry T). f p.0) l (joined_all ls),
    sum_of-map f (λ (p : Entry T). p.0) l,
    once_told f ls,
  )

module _ {T H : Type 0} (does : ℕ → T → H → T → H → Type 0) (fails : T → Bool) where
  pub told : (xs ys : List T) (ds es : List H) (logs : List (List (Entry T))) → Settled fails xs ys (joined_all logs) → DidAll does logs ds es → EachLastFails fails logs → Claimed does fails xs ys ds es
  told xs ys ds es logs s did last = record {
    count = s.n;
    within = (s.within, s.same_length);
    logs = map (map (λ p. p.0)) logs;
    once = λ f. once_told f logs ∙ s.counted f;
    ran = all_told xs ys does logs ds es placed did;
    rest = λ k le. dite (dec_lt k (length xs))
        (λ lt. let t = at_below xs k lt in get_of ys k t.0 (s.left k t.0 le t.1) ∙ sym (get_of xs k t.0 t.1))
        (λ past. slice_get_past ys k (omega (arith, past, s.same_length)) ∙ sym (slice_get_past xs k (omega (arith, past))));
    all = dite (dec_lt s.n (length xs))
        (λ lt. let b = s.stop lt in inr (b.0, b.1, b.2, get_of ys b.0 b.1 b.3, b.4))
        (λ past. inl (omega (arith, past, s.within)));
    last = lasts_told xs ys fails logs placed last;
  }
    where
      placed : (i : ℕ) (p : Entry T) → get_elem? (joined_all logs) i ≡ some p → (get_elem? xs p.0 ≡ some p.1) × (get_elem? ys p.0 ≡ some p.2)
      placed i p at = let l = s.logged i p at in (l.1, l.2)

module _ {T : Type 0} where
  pub begun : (may : ℕ → T → Type 0) (xs l : List T) (n m : ℕ) (me : Me T (Progress T)) → l ≡ xs → me ≡ (fresh l n, []) → m ≡ n → ((k : ℕ) (x : T) → slice_get xs k ≡ Some x → may k x) → Starts may m me
  begun may xs l n m me is me-is count can = record {
    is_fresh = ap (λ e. e.0) me-is ∙ (ap (fresh l) (sym count) ∙ ap (λ e. fresh e.0.start m) (sym me-is));
    none_out = ap (λ e. e.1) me-is;
    can = λ k x at. can k x (get_of xs k x (subst (λ (t : List T). get_elem? t k ≡ some x) (ap (λ e. e.0.start) me-is ∙ is) at));
  }
