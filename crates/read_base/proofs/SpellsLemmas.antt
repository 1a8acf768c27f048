-- What is taken is spelled so: the law of each way in which readers are made of readers.
use Rattle.std.proofs.Common.{◌≡◌, ℕ, zero, suc, Bool, List, [], ◌∷◌, ◌++◌, length, drop, Result, Ok, refl, sym, ap, subst, ◌∙◌, append_assoc, inl, inr}
use Rattle.read_base.specs.Reads.{◌>>=◌, skip, is_at, more, all_at}
use Rattle.read_base.specs.Spelled.{Spaced, Behind, IsMore, Then}
use Rattle.read_base.specs.Laws.{Takes, Spells, SpellsWhere}
use Rattle.read_base.proofs.StepLemmas.{bind_ok, ok_is, chosen, gap_parts, marked}

-- two pieces, one behind the other
pub two_parts : (t u a b r : List ℕ) → t ≡ a ++ u → u ≡ b ++ r → t ≡ (a ++ b) ++ r
two_parts t u a b r e1 e2 = rw (e1, e2) (sym (append_assoc a b r))

pub more_spells : {K A : Type 0} (begins : List ℕ → Bool) (item : List ℕ → Result (A × List ℕ) (K × ℕ)) (P : List ℕ → A → Type 0) → SpellsWhere begins item P → (n : ℕ) → Spells (more begins item n) (IsMore P)
unfolding more
more_spells {K} {A} begins item P law zero t p e = subst (λ (q : List A × List ℕ). Takes (IsMore P) t q) (ok_is {K = K} ([], t) p e) ([], refl, refl)
more_spells {K} {A} begins item P law (suc n) t p e = elim (chosen (begins t) _ _ _ e) [
  | inl h ↦
      let a = bind_ok (item t) (λ x. more begins item n x.1 >>= λ xs. Ok (x.0 ∷ xs.0, xs.1)) p h.1 in
      let b = bind_ok (more begins item n a.0.1) (λ xs. Ok (a.0.0 ∷ xs.0, xs.1)) p a.2 in
      let one = law t a.0 h.0 a.1 in
      let others = more_spells begins item P law n a.0.1 b.0 b.1 in
      subst (λ (q : List A × List ℕ). Takes (IsMore P) t q) (ok_is {K = K} (a.0.0 ∷ b.0.0, b.0.1) p b.2)
      (one.0 ++ others.0, (one.0, others.0, one.1, others.1, refl), two_parts t a.0.1 one.0 others.0 b.0.1 one.2 others.2)
  | inr h ↦ subst (λ (q : List A × List ℕ). Takes (IsMore P) t q) (ok_is {K = K} ([], t) p h.1) ([], refl, refl)
]

pub all_spells : {K A : Type 0} (begins : List ℕ → Bool) (item : List ℕ → Result (A × List ℕ) (K × ℕ)) (P : List ℕ → A → Type 0) → SpellsWhere begins item P → Spells (all_at begins item) (IsMore P)
all_spells begins item P law t p e = more_spells begins item P law (length t) t p e

spaced_takes : {A : Type 0} (P : List ℕ → A → Type 0) (t : List ℕ) (p : A × List ℕ) → Takes P (skip t) p → Takes (Spaced P) t p
spaced_takes P t p one =
    let gap = gap_parts t in
    (gap.0 ++ one.0, record { gap = gap.0; rest = one.0; is_gap = gap.1; is = one.1; parts = refl }, gap.2 ∙ ap (λ (l : List ℕ). gap.0 ++ l) one.2 ∙ sym (append_assoc gap.0 one.0 p.1))

pub spaced_spells : {K A : Type 0} (item : List ℕ → Result (A × List ℕ) (K × ℕ)) (P : List ℕ → A → Type 0) → Spells item P → Spells (λ t. item (skip t)) (Spaced P)
spaced_spells item P law t p e = spaced_takes P t p (law (skip t) p e)

pub spaced_where : {K A : Type 0} (begins : List ℕ → Bool) (item : List ℕ → Result (A × List ℕ) (K × ℕ)) (P : List ℕ → A → Type 0) → SpellsWhere begins item P → SpellsWhere (λ t. begins (skip t)) (λ t. item (skip t)) (Spaced P)
spaced_where begins item P law t p h e = spaced_takes P t p (law (skip t) p h e)

pub behind_spells : {K A : Type 0} (mark : ℕ) (item : List ℕ → Result (A × List ℕ) (K × ℕ)) (P : List ℕ → A → Type 0) → Spells item P → SpellsWhere (is_at mark) (λ t. item (drop 1 t)) (Behind mark P)
behind_spells mark item P law t p h e =
    let one = law (drop 1 t) p e in
    (mark ∷ one.0, (one.0, one.1, refl), marked mark t h ∙ ap (λ (l : List ℕ). mark ∷ l) one.2)

pub then_spells : {K A B : Type 0} (item : List ℕ → Result (A × List ℕ) (K × ℕ)) (f : A → List ℕ → Result (B × List ℕ) (K × ℕ)) (P : List ℕ → A → Type 0) (Q : A → List ℕ → B → Type 0) → Spells item P → ((x : A) → Spells (f x) (Q x)) → Spells (λ t. item t >>= λ p. f p.0 p.1) (Then P Q)
then_spells item f P Q law next t p e =
    let a = bind_ok (item t) (λ x. f x.0 x.1) p e in
    let one = law t a.0 a.1 in
    let rest = next a.0.0 a.0.1 p a.2 in
    (one.0 ++ rest.0, (one.0, rest.0, a.0.0, one.1, rest.1, refl), two_parts t a.0.1 one.0 rest.0 p.1 one.2 rest.2)
