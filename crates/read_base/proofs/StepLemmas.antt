-- Steps of reading, taken apart.
use Rattle.std.proofs.Common.{◌≡◌, ℕ, suc, ◌+◌, ◌<◌, Bool, true, false, not, cond, eqb, List, [], ◌∷◌, ◌++◌, length, take, drop, Result, Ok, Err, refl, sym, ap, subst, ◌∙◌, arith, inl, inr, ◌⊎◌}
use Rattle.std.specs.Prelude.{◌==◌}
use Rattle.std.specs.List.{prefix_len}
use Rattle.std.proofs.lemmas.Bool.{eqb-true, eqb-false, ne_eqb, not-true}
use Rattle.std.proofs.lemmas.List.{take-append-drop, take_at, drop_at}
use Rattle.std.proofs.lemmas.List.Folds.{length-prefix_len}
use Rattle.read_base.specs.Reads.{◌>>=◌, skip, is_at, mark_at, run_at}
use Rattle.read_base.specs.Spelled.{AreAll, IsGap}
use Rattle.read_base.specs.Laws.{head_is}

-- a step that failed, and one that did not, at a type that can be named
abbrev pub failed : {K A : Type 0} → K × ℕ → Result A (K × ℕ)
failed d = Err d

abbrev pub done : {K A : Type 0} → A → Result A (K × ℕ)
done x = Ok x

-- of two faults that are the same, the kinds and the places are
pub err_is : {K A : Type 0} (c d : K × ℕ) → failed {K = K} {A = A} c ≡ failed d → c ≡ d
err_is c d e = cc

-- of two values that are read the same, the values are
pub ok_is : {K A : Type 0} (x y : A) → done {K = K} x ≡ done y → x ≡ y
ok_is x y e = cc

-- the value of a step that did not fail
pub bind_ok : {K A B : Type 0} (r : Result A (K × ℕ)) (f : A → Result B (K × ℕ)) (y : B) → (r >>= f) ≡ Ok y → (x : A) × (r ≡ Ok x) × (f x ≡ Ok y)
bind_ok (Ok x) f y e = (x, refl, e)
bind_ok (Err d) f y e = absurd cc

-- the step that failed
pub bind_err : {K A B : Type 0} (r : Result A (K × ℕ)) (f : A → Result B (K × ℕ)) (d : K × ℕ) → (r >>= f) ≡ Err d → (r ≡ Err d) ⊎ ((x : A) × (r ≡ Ok x) × (f x ≡ Err d))
bind_err (Ok x) f d e = inr (x, refl, e)
bind_err {K} {A} {B} (Err c) f d e =
    let h : failed {K = K} {A = B} c ≡ failed d = e in
    inl (ap (λ k. Err k) (err_is c d h))

-- which case was taken
pub chosen : {A : Type 0} (b : Bool) (x y z : A) → cond b x y ≡ z → ((b ≡ true) × (x ≡ z)) ⊎ ((b ≡ false) × (y ≡ z))
chosen true x y z e = inl (refl, e)
chosen false x y z e = inr (refl, e)

gap_by : (c : Bool) (b : ℕ) (bs : List ℕ) → (b == 32) ≡ c → (gap : List ℕ) × IsGap gap × (bs ≡ gap ++ skip bs) → (gap : List ℕ) × IsGap gap × (b ∷ bs ≡ gap ++ cond c (skip bs) (b ∷ bs))
gap_by true b bs h so = (b ∷ so.0, (h, so.1), ap (λ (l : List ℕ). b ∷ l) so.2)
gap_by false b bs h so = ([], tt, refl)

-- the spaces that are skipped
pub gap_parts : (t : List ℕ) → (gap : List ℕ) × IsGap gap × (t ≡ gap ++ skip t)
gap_parts [] = ([], tt, refl)
gap_parts (b ∷ bs) = gap_by (b == 32) b bs refl (gap_parts bs)

-- the byte that stands first
pub marked : (mark : ℕ) (t : List ℕ) → is_at mark t ≡ true → t ≡ mark ∷ drop 1 t
marked mark [] h = absurd cc
marked mark (b ∷ bs) h = ap (λ (c : ℕ). c ∷ bs) (eqb-true b mark h)

run_by : (p : ℕ → Bool) (c : Bool) (b : ℕ) (bs : List ℕ) → p b ≡ c → AreAll p (take (prefix_len p bs) bs) → AreAll p (take (cond c (1 + prefix_len p bs) 0) (b ∷ bs))
run_by p true b bs h so = let one : suc (prefix_len p bs) ≡ 1 + prefix_len p bs = omega arith in subst (λ (n : ℕ). AreAll p (take n (b ∷ bs))) one (h, so)
run_by p false b bs h so = tt

-- the bytes of a run pass the test
pub run_all : (p : ℕ → Bool) (t : List ℕ) → AreAll p (take (prefix_len p t) t)
run_all p [] = tt
run_all p (b ∷ bs) = run_by p (p b) b bs refl (run_all p bs)

-- what a mark that was read stands before
pub mark_is : {K : Type 0} (kind : K) (mark : ℕ) (t r : List ℕ) → mark_at kind mark t ≡ Ok r → t ≡ mark ∷ r
mark_is {K} kind mark t r e = elim (chosen (is_at mark t) _ _ _ e) [
  | inl h ↦ marked mark t h.0 ∙ ap (λ (l : List ℕ). mark ∷ l) (ok_is {K = K} (drop 1 t) r h.1)
  | inr h ↦ absurd cc
]

-- a run that was read
pub record RunIs (p : ℕ → Bool) (t : List ℕ) (q : List ℕ × List ℕ) : Type 0 where
  pub some : 0 < length q.0
  pub all : AreAll p q.0
  pub parts : t ≡ q.0 ++ q.1

pub run_is : {K : Type 0} (kind : K) (p : ℕ → Bool) (t : List ℕ) (q : List ℕ × List ℕ) → run_at kind p t ≡ Ok q → RunIs p t q
run_is {K} kind p t q e = elim (chosen (eqb (prefix_len p t) 0) _ _ _ e) [
  | inl h ↦ absurd cc
  | inr h ↦ subst (λ (z : List ℕ × List ℕ). RunIs p t z) (ok_is {K = K} (take (prefix_len p t) t, drop (prefix_len p t) t) q h.1)
      (record { some = omega (arith, length-prefix_len p t, eqb-false _ _ h.0); all = run_all p t; parts = sym (take-append-drop (prefix_len p t) t) })
]

-- a run that ends where a byte fails the test has its own length
pub run_len : (p : ℕ → Bool) (w r : List ℕ) → AreAll p w → head_is (λ b. not (p b)) r ≡ true → prefix_len p (w ++ r) ≡ length w
run_len p [] [] h k = refl
run_len p [] (b ∷ bs) h k = rw (not-true (p b) k) refl
run_len p (b ∷ w) r h k = rw (h.0, run_len p w r h.1 k) (omega arith)

-- a run is read before a byte that fails the test
pub run_again : {K : Type 0} (kind : K) (p : ℕ → Bool) (w r : List ℕ) → 0 < length w → AreAll p w → head_is (λ b. not (p b)) r ≡ true → run_at kind p (w ++ r) ≡ Ok (w, r)
run_again kind p w r lt h k =
    let n = run_len p w r h k in
    let some : eqb (length w) 0 ≡ false = ne_eqb (length w) 0 (λ e. omega (arith, e, lt)) in
    rw (n, some, take_at w r (length w) refl, drop_at w r (length w) refl) refl
