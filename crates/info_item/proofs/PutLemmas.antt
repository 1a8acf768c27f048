-- A pair put among those that go over others goes over them too.
use Rattle.std.proofs.Common.{◌≡◌, ℕ, List, [], ◌∷◌, refl, sym, ap, subst, ◌∙◌, Bool, true, false, cond}
use Rattle.std.specs.Prelude.{Some, None, is_some}
use Rattle.std.specs.Str.{bytes_eq}
use Rattle.std.proofs.lemmas.Slice.Eq.{bytes_eq-Decides}
use Rattle.info_tree.specs.Tree.{Tree}
use Rattle.info_tree.specs.Pairs.{value_at, put, HaveDistinctKeys}
use Rattle.info_item.specs.View.{over}

-- whether a key stands
abbrev pub Has : List (List ℕ × Tree) → List ℕ → Type 0
Has ps k = is_some (value_at ps k) ≡ true

-- a key that stands takes the later of two values
pub put-again : (ps : List (List ℕ × Tree)) (k : List ℕ) (t v : Tree) → put (put ps k v) k t ≡ put ps k t
put-again [] k t v = rw ((bytes_eq-Decides k k).1 refl) refl
put-again (p ∷ ps) k t v = step (put-again ps k t v) (bytes_eq k p.0) refl
  where
    step : put (put ps k v) k t ≡ put ps k t → (b : Bool) → bytes_eq k p.0 ≡ b →
        put (cond b ((p.0, v) ∷ ps) (p ∷ put ps k v)) k t ≡ cond b ((p.0, t) ∷ ps) (p ∷ put ps k t)
    step less true e = rw e refl
    step less false e = rw e (ap (λ l. p ∷ l) less)

pub put-has : (ps : List (List ℕ × Tree)) (k : List ℕ) (v : Tree) → Has (put ps k v) k
put-has [] k v = rw ((bytes_eq-Decides k k).1 refl) refl
put-has (p ∷ ps) k v = step (put-has ps k v) (bytes_eq k p.0) refl
  where
    step : Has (put ps k v) k → (b : Bool) → bytes_eq k p.0 ≡ b → Has (cond b ((p.0, v) ∷ ps) (p ∷ put ps k v)) k
    step less true e = rw e refl
    step less false e = rw e less

pub put-keeps : (ps : List (List ℕ × Tree)) (k j : List ℕ) (v : Tree) → Has ps k → Has (put ps j v) k
put-keeps [] k j v h = absurd (cc h)
put-keeps (p ∷ ps) k j v h = step (put-keeps ps k j v) (bytes_eq j p.0) (bytes_eq k p.0) refl h
  where
    step : (Has ps k → Has (put ps j v) k) → (b c : Bool) → bytes_eq k p.0 ≡ c → is_some (cond c (Some p.1) (value_at ps k)) ≡ true →
        Has (cond b ((p.0, v) ∷ ps) (p ∷ put ps j v)) k
    step less true true e h = rw e refl
    step less true false e h = rw e h
    step less false true e h = rw e refl
    step less false false e h = rw e (less h)

-- puts at two keys, of which one stands, can be turned round
pub put-turn : (ps : List (List ℕ × Tree)) (k j : List ℕ) (t v : Tree) → bytes_eq k j ≡ false → Has ps k →
    put (put ps j v) k t ≡ put (put ps k t) j v
put-turn [] k j t v other h = absurd (cc h)
put-turn (p ∷ ps) k j t v other h = step (put-turn ps k j t v other) (bytes_eq k p.0) refl (bytes_eq j p.0) refl h
  where
    step : (Has ps k → put (put ps j v) k t ≡ put (put ps k t) j v) → (b : Bool) → bytes_eq k p.0 ≡ b → (c : Bool) → bytes_eq j p.0 ≡ c →
        is_some (cond b (Some p.1) (value_at ps k)) ≡ true →
        put (cond c ((p.0, v) ∷ ps) (p ∷ put ps j v)) k t ≡ put (cond b ((p.0, t) ∷ ps) (p ∷ put ps k t)) j v
    step less true d true e h =
        let one : k ≡ p.0 = (bytes_eq-Decides k p.0).0 d in
        let two : j ≡ p.0 = (bytes_eq-Decides j p.0).0 e in
        let same : bytes_eq k j ≡ true = (bytes_eq-Decides k j).1 (one ∙ sym two) in
        absurd (cc (same, other))
    step less true d false e h = rw (d, e) refl
    step less false d true e h = rw (d, e) refl
    step less false d false e h = rw (d, e) (ap (λ l. p ∷ l) (less h))

-- a pair whose key stands below and not above
over-turn : (ps qs : List (List ℕ × Tree)) (k : List ℕ) (t : Tree) → value_at qs k ≡ None → Has ps k →
    put (over ps qs) k t ≡ over (put ps k t) qs
over-turn ps [] k t none h = refl
over-turn ps (q ∷ qs) k t none h = step (λ rest. over-turn (put ps q.0 q.1) qs k t rest (put-keeps ps k q.0 q.1 h)) (bytes_eq k q.0) refl none
  where
    step : (value_at qs k ≡ None → put (over (put ps q.0 q.1) qs) k t ≡ over (put (put ps q.0 q.1) k t) qs) → (b : Bool) → bytes_eq k q.0 ≡ b →
        cond b (Some q.1) (value_at qs k) ≡ None → put (over (put ps q.0 q.1) qs) k t ≡ over (put (put ps k t) q.0 q.1) qs
    step less true e none = absurd (cc none)
    step less false e none = less none ∙ ap (λ l. over l qs) (put-turn ps k q.0 t q.1 e h)

pub over-put : (ps qs : List (List ℕ × Tree)) (k : List ℕ) (t : Tree) → HaveDistinctKeys qs → over ps (put qs k t) ≡ put (over ps qs) k t
over-put ps [] k t d = refl
over-put ps (q ∷ qs) k t d = step (over-put (put ps q.0 q.1) qs k t d.1) (bytes_eq k q.0) refl
  where
    step : over (put ps q.0 q.1) (put qs k t) ≡ put (over (put ps q.0 q.1) qs) k t → (b : Bool) → bytes_eq k q.0 ≡ b →
        over ps (cond b ((q.0, t) ∷ qs) (q ∷ put qs k t)) ≡ put (over (put ps q.0 q.1) qs) k t
    step less true e =
        let is : q.0 ≡ k = sym ((bytes_eq-Decides k q.0).0 e) in
        rw is (sym (over-turn (put ps k q.1) qs k t (subst (λ (w : List ℕ). value_at qs w ≡ None) is d.0) (put-has ps k q.1) ∙ ap (λ l. over l qs) (put-again ps k t q.1)))
    step less false e = less
