-- What dialers did, in order.
use Rattle.std.proofs.Common.{◌≡◌, List, [], ◌∷◌, ◌++◌, ◌+◌, length, get_or, set, refl, sym, ap, ap₂, ◌∙◌, subst, append_assoc, append-nil, arith, ℕ, zero, suc, Bool, true, false, true≢false, ◌⊎◌, inl, inr, ⊎_elim, length-append}
use mathlib.Core.Option.{some, some-injective, some-ne-none}
use lib.ListN.{get_elem?}
use Rattle.atomic_table.specs.Table.{Me}
use Rattle.claim_crew.specs.declared.rule.Progress.{Progress}
use Rattle.claim_crew.specs.Claimed.{joined_all}
use Rattle.claim_crew.specs.Rule.{Entry, joined, Did, DidAll, LastFails, EachLastFails, IsDone, AreDone}

module _ {T D : Type 0} (does : ℕ → T → D → T → D → Type 0) where
  pub ran_more : (log : List (Entry T)) (k : ℕ) (x y : T) (d m e : D) → Did does log d m → does k x m y e → Did does (log ++ (k, x, y) ∷ []) d e
  ran_more [] k x y d m e r f = (e, subst (λ (z : D). does k x z y e) (sym r) f, refl)
  ran_more (p ∷ ps) k x y d m e r f = (r.0, r.1, ran_more ps k x y r.0 m e r.2 f)

  -- a worker of one dialer
  pub alone : (fails : T → Bool) (workers : ℕ) (me : Me T (Progress T)) (ds : List D) (d e : D) → length ds ≡ 1 → IsDone does fails workers me (get_or ds 0 d) e → AreDone does fails workers me ds (set ds 0 e)
  alone fails workers me [] d e len w = absurd (omega arith)
  alone fails workers me (x ∷ y ∷ ds) d e len w = absurd (omega arith)
  alone fails workers me (x ∷ []) d e len w = record {
    workers_are = w.workers_are;
    is_finished = w.is_finished;
    none_claimed = w.none_claimed;
    none_out = w.none_out;
    logs = me.0.log ∷ [];
    log_is = sym (append-nil me.0.log);
    did = (w.did, tt);
    last = (w.last, tt);
  }

  -- two halves of the workers
  pub together : (fails : T → Bool) (p q n : ℕ) (me me' both : Me T (Progress T)) (ds ds' es es' all : List D) → AreDone does fails p me ds es → AreDone does fails q me' ds' es' → n ≡ q + p → all ≡ ds ++ ds'
      → both ≡ (joined me'.0 me.0, me'.1) → AreDone does fails n both all (es ++ es')
  together fails p q n me me' both ds ds' es es' all a b sum cut is = record {
    workers_are = ap (λ m. m.0.workers) is ∙ (ap₂ ◌+◌ b.workers_are a.workers_are ∙ sym sum);
    is_finished = ap (λ m. m.0.finished) is ∙ b.is_finished;
    none_claimed = ap (λ m. m.0.claimed) is;
    none_out = ap (λ m. m.1) is ∙ b.none_out;
    logs = a.logs ++ b.logs;
    log_is = ap (λ m. m.0.log) is ∙ (ap₂ ◌++◌ a.log_is b.log_is ∙ sym (joined-append a.logs b.logs));
    did = subst (λ (l : List D). DidAll does (a.logs ++ b.logs) l (es ++ es')) (sym cut) (ran-append a.logs ds es a.did);
    last = last-append a.logs a.last;
  }
    where
      joined-append : (ls ms : List (List (Entry T))) → joined_all (ls ++ ms) ≡ joined_all ls ++ joined_all ms
      joined-append [] ms = refl
      joined-append (l ∷ ls) ms = ap (λ t. l ++ t) (joined-append ls ms) ∙ sym (append_assoc l (joined_all ls) (joined_all ms))

      ran-append : (ls : List (List (Entry T))) (xs ys : List D) → DidAll does ls xs ys → DidAll does (ls ++ b.logs) (xs ++ ds') (ys ++ es')
      ran-append [] [] [] r = b.did
      ran-append (l ∷ ls) (x ∷ xs) (y ∷ ys) r = (r.0, ran-append ls xs ys r.1)
      ran-append [] [] (y ∷ ys) r = absurd r
      ran-append [] (x ∷ xs) ys r = absurd r
      ran-append (l ∷ ls) [] ys r = absurd r
      ran-append (l ∷ ls) (x ∷ xs) [] r = absurd r

      last-append : (ls : List (List (Entry T))) → EachLastFails fails ls → EachLastFails fails (ls ++ b.logs)
      last-append [] h = b.last
      last-append (l ∷ ls) h = (h.0, last-append ls h.1)

module _ {T : Type 0} (fails : T → Bool) where
  -- none of these failed
  abbrev pub NoneFailed : List (Entry T) → Type 0
  NoneFailed log = (i : ℕ) (p : Entry T) → get_elem? log i ≡ some p → fails p.2 ≡ false

  pub none_last : (log : List (Entry T)) → NoneFailed log → LastFails fails log
  none_last log h i p at bad = absurd (true≢false (sym bad ∙ h i p at))

  last_at : (log : List (Entry T)) (x : Entry T) (i : ℕ) (p : Entry T) → get_elem? (log ++ x ∷ []) i ≡ some p → (get_elem? log i ≡ some p) ⊎ ((i ≡ length log) × (x ≡ p))
  last_at [] x zero p e = inr (refl, some-injective x p e)
  last_at [] x (suc i) p e = absurd (some-ne-none p (sym e))
  last_at (y ∷ ys) x zero p e = inl e
  last_at (y ∷ ys) x (suc i) p e = ⊎_elim (λ a. inl a) (λ (b : (i ≡ length ys) × (x ≡ p)). inr (ap suc b.0, b.1)) (last_at ys x i p e)

  pub last_more : (log now : List (Entry T)) (x : Entry T) → NoneFailed log → now ≡ log ++ x ∷ [] → LastFails fails now
  last_more log now x h is = subst (LastFails fails) (sym is) (λ i p at bad. ⊎_elim (λ a. absurd (true≢false (sym bad ∙ h i p a))) (λ (b : (i ≡ length log) × (x ≡ p)). omega (arith, b.0, length-append log (x ∷ []))) (last_at log x i p at))

  pub none_more : (log now : List (Entry T)) (x : Entry T) → NoneFailed log → (fails x.2 ≡ true → ⊥) → now ≡ log ++ x ∷ [] → NoneFailed now
  none_more log now x h good is = subst NoneFailed (sym is) (λ i p at. ⊎_elim (λ a. h i p a) (λ (b : (i ≡ length log) × (x ≡ p)). subst (λ (q : Entry T). fails q.2 ≡ false) b.1 (not_true (fails x.2) good)) (last_at log x i p at))
    where
      not_true : (b : Bool) → (b ≡ true → ⊥) → b ≡ false
      not_true true n = absurd (n refl)
      not_true false n = refl
