-- What is taken is spelled so.
use Rattle.std.proofs.Common.{◌≡◌, ℕ, zero, suc, ◌+◌, ◌<◌, ◌≤◌, Bool, true, false, not, cond, eqb, List, [], ◌∷◌, ◌++◌, length, take, drop, Result, Ok, refl, sym, ap, subst, ◌∙◌, arith, inl, inr}
use Rattle.std.specs.List.{prefix_len}
use Rattle.std.proofs.lemmas.List.{nil_from_length, take-append-drop, length-append}
use Rattle.read_base.specs.Reads.{◌>>=◌, is_at, run_at, more, all_at}
use Rattle.read_base.specs.Laws.{head_is}
use Rattle.read_base.proofs.StepLemmas.{bind_ok, ok_is, chosen, marked, run_is, run_all}
use Rattle.read_base.proofs.SpellsLemmas.{two_parts}
use Rattle.tpl_lang.specs.declared.tpl_kind.TplKind.{TplKind}
use Rattle.tpl_lang.specs.Spelled.{IsEnd, Follows, AllOf, Marked, IsRun, IsSomeRun}

-- the text begins with what is spelled so before the rest
abbrev pub TakesSo : {A : Type 0} → (List ℕ → List ℕ → A → Type 0) → List ℕ → A × List ℕ → Type 0
TakesSo P t p = (s : List ℕ) × P s p.1 p.0 × (t ≡ s ++ p.1)

abbrev pub SpellsSo : {A : Type 0} → (List ℕ → Result (A × List ℕ) (TplKind × ℕ)) → (List ℕ → List ℕ → A → Type 0) → Type 0
SpellsSo {A} item P = (t : List ℕ) (p : A × List ℕ) → item t ≡ Ok p → TakesSo P t p

-- the same, where the test says that an item begins
abbrev pub SpellsAt : {A : Type 0} → (List ℕ → Bool) → (List ℕ → Result (A × List ℕ) (TplKind × ℕ)) → (List ℕ → List ℕ → A → Type 0) → Type 0
SpellsAt {A} begins item P = (t : List ℕ) (p : A × List ℕ) → begins t ≡ true → item t ≡ Ok p → TakesSo P t p

pub end_spells : {A : Type 0} (x : A) → SpellsSo (λ t. Ok (x, t)) (IsEnd x)
end_spells {A} x t p e = subst (λ (q : A × List ℕ). TakesSo (IsEnd x) t q) (ok_is {K = TplKind} (x, t) p e) ([], (refl, refl), refl)

pub follows_spells : {A B : Type 0} (item : List ℕ → Result (A × List ℕ) (TplKind × ℕ)) (f : A → List ℕ → Result (B × List ℕ) (TplKind × ℕ)) (P : List ℕ → List ℕ → A → Type 0) (Q : A → List ℕ → List ℕ → B → Type 0)
    → SpellsSo item P → ((x : A) → SpellsSo (f x) (Q x)) → SpellsSo (λ t. item t >>= λ p. f p.0 p.1) (Follows P Q)
follows_spells item f P Q law next t p e =
    let a = bind_ok (item t) (λ x. f x.0 x.1) p e in
    let one = law t a.0 a.1 in
    let rest = next a.0.0 a.0.1 p a.2 in
    (one.0 ++ rest.0, (one.0, rest.0, a.0.0, subst (λ (l : List ℕ). P one.0 l a.0.0) rest.2 one.1, rest.1, refl), two_parts t a.0.1 one.0 rest.0 p.1 one.2 rest.2)

pub marked_spells : {A : Type 0} (mark : ℕ) (item : List ℕ → Result (A × List ℕ) (TplKind × ℕ)) (P : List ℕ → List ℕ → A → Type 0) → SpellsSo item P → SpellsAt (is_at mark) (λ t. item (drop 1 t)) (Marked mark P)
marked_spells mark item P law t p h e =
    let one = law (drop 1 t) p e in
    (mark ∷ one.0, (one.0, one.1, refl), marked mark t h ∙ ap (λ (l : List ℕ). mark ∷ l) one.2)

pub marked_some : {A : Type 0} (mark : ℕ) (P : List ℕ → List ℕ → A → Type 0) (s r : List ℕ) (x : A) → Marked mark P s r x → 0 < length s
marked_some mark P s r x h = omega (arith, ap length h.2)

-- ---- items one after the other

shorter : (t s r : List ℕ) (n : ℕ) → t ≡ s ++ r → 0 < length s → length t ≤ suc n → length r ≤ n
shorter t s r n e some le = omega (arith, ap length e, length-append s r, some, le)

pub more_spells : {A : Type 0} (begins : List ℕ → Bool) (item : List ℕ → Result (A × List ℕ) (TplKind × ℕ)) (P : List ℕ → List ℕ → A → Type 0) → begins [] ≡ false → ((s r : List ℕ) (x : A) → P s r x → 0 < length s) → SpellsAt begins item P
    → (n : ℕ) (t : List ℕ) (p : List A × List ℕ) → length t ≤ n → more begins item n t ≡ Ok p → TakesSo (AllOf begins P) t p
unfolding more
more_spells {A} begins item P none some law zero t p le e =
    let empty : t ≡ [] = nil_from_length t (omega (arith, le)) in
    subst (λ (q : List A × List ℕ). TakesSo (AllOf begins P) t q) (ok_is {K = TplKind} ([], t) p e) ([], (refl, ap begins empty ∙ none), refl)
more_spells {A} begins item P none some law (suc n) t p le e = elim (chosen (begins t) _ _ _ e) [
  | inl h ↦
      let a = bind_ok (item t) (λ x. more begins item n x.1 >>= λ xs. Ok (x.0 ∷ xs.0, xs.1)) p h.1 in
      let b = bind_ok (more begins item n a.0.1) (λ xs. Ok (a.0.0 ∷ xs.0, xs.1)) p a.2 in
      let one = law t a.0 h.0 a.1 in
      let others = more_spells begins item P none some law n a.0.1 b.0 (shorter t one.0 a.0.1 n one.2 (some one.0 a.0.1 a.0.0 one.1) le) b.1 in
      let parts = two_parts t a.0.1 one.0 others.0 b.0.1 one.2 others.2 in
      let here : begins ((one.0 ++ others.0) ++ b.0.1) ≡ true = ap begins (sym parts) ∙ h.0 in
      let made : List A × List ℕ = (a.0.0 ∷ b.0.0, b.0.1) in
      let taken : TakesSo (AllOf begins P) t made = (one.0 ++ others.0, (one.0, others.0, subst (λ (l : List ℕ). P one.0 l a.0.0) others.2 one.1, others.1, here, refl), parts) in
      subst (λ (q : List A × List ℕ). TakesSo (AllOf begins P) t q) (ok_is {K = TplKind} made p b.2) taken
  | inr h ↦ subst (λ (q : List A × List ℕ). TakesSo (AllOf begins P) t q) (ok_is {K = TplKind} ([], t) p h.1) ([], (refl, h.0), refl)
]

pub all_spells : {A : Type 0} (begins : List ℕ → Bool) (item : List ℕ → Result (A × List ℕ) (TplKind × ℕ)) (P : List ℕ → List ℕ → A → Type 0) → begins [] ≡ false → ((s r : List ℕ) (x : A) → P s r x → 0 < length s) → SpellsAt begins item P → SpellsSo (all_at begins item) (AllOf begins P)
all_spells begins item P none some law t p e = more_spells begins item P none some law (length t) t p (omega arith) e

-- all behind a mark
pub list_spells : {A : Type 0} (mark : ℕ) (item : List ℕ → Result (A × List ℕ) (TplKind × ℕ)) (P : List ℕ → List ℕ → A → Type 0) → SpellsSo item P → SpellsSo (all_at (is_at mark) (λ t. item (drop 1 t))) (AllOf (is_at mark) (Marked mark P))
list_spells mark item P law = all_spells (is_at mark) (λ t. item (drop 1 t)) (Marked mark P) refl (marked_some mark P) (marked_spells mark item P law)

-- ---- runs

stop_by : (p : ℕ → Bool) (c : Bool) (b : ℕ) (bs : List ℕ) → p b ≡ c → head_is (λ x. not (p x)) (drop (prefix_len p bs) bs) ≡ true → head_is (λ x. not (p x)) (drop (cond c (1 + prefix_len p bs) 0) (b ∷ bs)) ≡ true
stop_by p true b bs h so = let one : suc (prefix_len p bs) ≡ 1 + prefix_len p bs = omega arith in subst (λ (n : ℕ). head_is (λ x. not (p x)) (drop n (b ∷ bs)) ≡ true) one so
stop_by p false b bs h so = ap not h

-- a run ends before a byte that fails the test
pub run_stop : (p : ℕ → Bool) (t : List ℕ) → head_is (λ x. not (p x)) (drop (prefix_len p t) t) ≡ true
run_stop p [] = refl
run_stop p (b ∷ bs) = stop_by p (p b) b bs refl (run_stop p bs)

abbrev cut_run : (ℕ → Bool) → List ℕ → Result (List ℕ × List ℕ) (TplKind × ℕ)
cut_run p t = Ok (take (prefix_len p t) t, drop (prefix_len p t) t)

pub run_spells : (p : ℕ → Bool) → SpellsSo (λ t. Ok (take (prefix_len p t) t, drop (prefix_len p t) t)) (IsRun p)
run_spells p t q e = subst (λ (z : List ℕ × List ℕ). TakesSo (IsRun p) t z) (ok_is {K = TplKind} (take (prefix_len p t) t, drop (prefix_len p t) t) q e)
    (take (prefix_len p t) t, (run_all p t, run_stop p t, refl), sym (take-append-drop (prefix_len p t) t))

pub some_run_spells : (kind : TplKind) (p : ℕ → Bool) → SpellsSo (run_at kind p) (IsSomeRun p)
some_run_spells kind p t q e = elim (chosen (eqb (prefix_len p t) 0) _ _ _ e) [
  | inl h ↦ absurd cc
  | inr h ↦
      let run = run_is kind p t q e in
      let is : cut_run p t ≡ Ok q = h.1 in
      let taken = run_spells p t q is in
      (q.0, (run.some, (run.all, taken.1.1, refl)), run.parts)
]
