-- A refused text could have gone on up to the fault's place: the law of each way in which readers are made of readers.
use Rattle.std.proofs.Common.{◌≡◌, ℕ, zero, suc, ◌-◌, Bool, true, eqb, List, [], ◌∷◌, ◌++◌, length, take, drop, Result, Ok, Err, refl, sym, ap, subst, append_assoc, append-nil, arith, inl, inr}
use Rattle.std.specs.List.{prefix_len}
use Rattle.std.proofs.lemmas.List.{take_at, length-append}
use Rattle.read_base.specs.Reads.{◌>>=◌, placed, skip, is_at, mark_at, run_at, more, all_at}
use Rattle.read_base.specs.Spelled.{Spaced, Behind, IsMore, IsSome, Then}
use Rattle.read_base.specs.Laws.{Spells, SpellsWhere, head_is, Opened, Opens, OpensWhere}
use Rattle.read_base.proofs.StepLemmas.{bind_err, err_is, failed, chosen, gap_parts, marked}
use Rattle.read_base.proofs.SpellsLemmas.{two_parts}

-- what fails at its start can become a sample
pub sample_opens : {A : Type 0} (first : ℕ → Bool) (P : List ℕ → A → Type 0) (t s : List ℕ) (x : A) (left : ℕ) → P s x → head_is first t ≡ true → left ≡ length t → Opened first P t left
sample_opens first P t s x left h k e = record { front = []; behind = s; rest = t; value = x; is = h; parts = refl; len = sym e; solid = k }

-- how many bytes are left at a fault that is written out
pub left_is : {K A : Type 0} (k : K) (n : ℕ) (d : K × ℕ) → failed {K = K} {A = A} (k, n) ≡ failed d → d.1 ≡ n
left_is {K} {A} k n d e = sym (ap (λ (z : K × ℕ). z.1) (err_is {K = K} {A = A} (k, n) d e))

-- a run fails at its start
pub run_left : {K : Type 0} (kind : K) (p : ℕ → Bool) (t : List ℕ) (d : K × ℕ) → run_at kind p t ≡ Err d → d.1 ≡ length t
run_left {K} kind p t d e = elim (chosen (eqb (prefix_len p t) 0) _ _ _ e) [
  | inl h ↦ left_is {K = K} {A = List ℕ × List ℕ} kind (length t) d h.1
  | inr h ↦ absurd cc
]

-- a mark fails where it should stand
pub mark_left : {K : Type 0} (kind : K) (mark : ℕ) (t : List ℕ) (d : K × ℕ) → mark_at kind mark t ≡ Err d → d.1 ≡ length t
mark_left {K} kind mark t d e = elim (chosen (is_at mark t) _ _ _ e) [
  | inl h ↦ absurd cc
  | inr h ↦ left_is {K = K} {A = List ℕ} kind (length t) d h.1
]

-- items that fail: one of them or more
pub more_opens : {K A : Type 0} (first : ℕ → Bool) (begins : List ℕ → Bool) (item : List ℕ → Result (A × List ℕ) (K × ℕ)) (P : List ℕ → A → Type 0) → SpellsWhere begins item P → OpensWhere first begins item P
    → (n : ℕ) (t : List ℕ) (d : K × ℕ) → more begins item n t ≡ Err d → Opened first (IsSome P) t d.1
unfolding more
more_opens first begins item P spells opens zero t d e = absurd cc
more_opens {K} {A} first begins item P spells opens (suc n) t d e = elim (chosen (begins t) _ _ _ e) [
  | inl h ↦
      elim (bind_err (item t) (λ x. more begins item n x.1 >>= λ xs. Ok (x.0 ∷ xs.0, xs.1)) d h.1) [
        | inl e1 ↦
            let o = opens t d h.0 e1 in
            record { front = o.front; behind = o.behind; rest = o.rest; value = (o.value, []); is = (o.front ++ o.behind, [], o.is, refl, sym (append-nil (o.front ++ o.behind))); parts = o.parts; len = o.len; solid = o.solid }
        | inr a ↦ elim (bind_err (more begins item n a.0.1) (λ xs. Ok (a.0.0 ∷ xs.0, xs.1)) d a.2) [
          | inl e2 ↦
              let one = spells t a.0 h.0 a.1 in
              let o = more_opens first begins item P spells opens n a.0.1 d e2 in
              record {
                front = one.0 ++ o.front;
                behind = o.behind;
                rest = o.rest;
                value = (a.0.0, o.value.0 ∷ o.value.1);
                is = (one.0, o.front ++ o.behind, one.1, o.is, append_assoc one.0 o.front o.behind);
                parts = two_parts t a.0.1 one.0 o.front o.rest one.2 o.parts;
                len = o.len;
                solid = o.solid;
              }
          | inr b ↦ absurd cc
        ]
      ]
  | inr h ↦ absurd cc
]

-- some items are items
pub some_opened : {A : Type 0} (first : ℕ → Bool) (P : List ℕ → A → Type 0) (t : List ℕ) (left : ℕ) → Opened first (IsSome P) t left → Opened first (IsMore P) t left
some_opened first P t left o = record { front = o.front; behind = o.behind; rest = o.rest; value = o.value.0 ∷ o.value.1; is = o.is; parts = o.parts; len = o.len; solid = o.solid }

pub all_opens : {K A : Type 0} (first : ℕ → Bool) (begins : List ℕ → Bool) (item : List ℕ → Result (A × List ℕ) (K × ℕ)) (P : List ℕ → A → Type 0) → SpellsWhere begins item P → OpensWhere first begins item P → (t : List ℕ) (d : K × ℕ) → all_at begins item t ≡ Err d → Opened first (IsSome P) t d.1
all_opens first begins item P spells opens t d e = more_opens first begins item P spells opens (length t) t d e

-- behind a text that was taken already
pub opened_behind : {A B : Type 0} (first : ℕ → Bool) (P : List ℕ → A → Type 0) (Q : List ℕ → B → Type 0) (s t u : List ℕ) (left : ℕ) → t ≡ s ++ u → (f : A → B) → ((r : List ℕ) (x : A) → P r x → Q (s ++ r) (f x)) → Opened first P u left → Opened first Q t left
opened_behind first P Q s t u left e f law o =
    record {
      front = s ++ o.front;
      behind = o.behind;
      rest = o.rest;
      value = f o.value;
      is = subst (λ (l : List ℕ). Q l (f o.value)) (sym (append_assoc s o.front o.behind)) (law (o.front ++ o.behind) o.value o.is);
      parts = two_parts t u s o.front o.rest e o.parts;
      len = o.len;
      solid = o.solid;
    }

pub behind_opens : {K A : Type 0} (first : ℕ → Bool) (mark : ℕ) (item : List ℕ → Result (A × List ℕ) (K × ℕ)) (P : List ℕ → A → Type 0) → Opens first item P → OpensWhere first (is_at mark) (λ t. item (drop 1 t)) (Behind mark P)
behind_opens first mark item P law t d h e = opened_behind first P (Behind mark P) (mark ∷ []) t (drop 1 t) d.1 (marked mark t h) (λ x. x) (λ r x is. (r, is, refl)) (law (drop 1 t) d e)

-- a reader that begins behind spaces fails at no space
pub spaced_opened : {A : Type 0} (first : ℕ → Bool) (P : List ℕ → A → Type 0) (t : List ℕ) (left : ℕ) → Opened first P (skip t) left → Opened first (Spaced P) t left
spaced_opened first P t left o =
    let gap = gap_parts t in
    opened_behind first P (Spaced P) gap.0 t (skip t) left gap.2 (λ x. x) (λ r x is. record { gap = gap.0; rest = r; is_gap = gap.1; is = is; parts = refl }) o

-- a reader behind another one: what the second can be is needed where the first one fails
pub then_opens : {K A B : Type 0} (first : ℕ → Bool) (item : List ℕ → Result (A × List ℕ) (K × ℕ)) (f : A → List ℕ → Result (B × List ℕ) (K × ℕ)) (P : List ℕ → A → Type 0) (Q : A → List ℕ → B → Type 0)
    → Spells item P → Opens first item P → ((x : A) → Opens first (f x) (Q x)) → ((x : A) → (s : List ℕ) × (y : B) × Q x s y) → Opens first (λ t. item t >>= λ p. f p.0 p.1) (Then P Q)
then_opens first item f P Q spells opens next sample t d e = elim (bind_err (item t) (λ x. f x.0 x.1) d e) [
  | inl e1 ↦
      let o = opens t d e1 in
      let s = sample o.value in
      record { front = o.front; behind = o.behind ++ s.0; rest = o.rest; value = s.1; is = (o.front ++ o.behind, s.0, o.value, o.is, s.2, sym (append_assoc o.front o.behind s.0)); parts = o.parts; len = o.len; solid = o.solid }
  | inr a ↦
      let one = spells t a.0 a.1 in
      opened_behind first (Q a.0.0) (Then P Q) one.0 t a.0.1 d.1 one.2 (λ y. y) (λ r y is. (one.0, r, a.0.0, one.1, is, refl)) (next a.0.0 a.0.1 d a.2)
]

-- the bytes before the place of a fault
pub front_is : (t front rest : List ℕ) (left : ℕ) → t ≡ front ++ rest → length rest ≡ left → take (length t - left) t ≡ front
front_is t front rest left e l =
    let n : length t - left ≡ length front = omega (arith, l, ap length e, length-append front rest) in
    rw (n, e) (take_at front rest (length front) refl)

abbrev refused : {A F : Type 0} → F → Result A F
refused f = Err f

fault_is : {A F : Type 0} (f g : F) → refused {A = A} f ≡ refused g → f ≡ g
fault_is f g e = cc

-- a fault of a text is that of its reading, at its place
pub placed_err : {K A F : Type 0} (fault : K → ℕ → F) (t : List ℕ) (r : Result A (K × ℕ)) (f : F) → placed fault t r ≡ Err f → (d : K × ℕ) × (r ≡ Err d) × (fault d.0 (length t - d.1) ≡ f)
placed_err fault t (Ok x) f e = absurd cc
placed_err {K} {A} {F} fault t (Err d) f e = (d, refl, fault_is {A = A} (fault d.0 (length t - d.1)) f e)

-- a text that is read as a value is one
pub placed_ok : {K A F : Type 0} (fault : K → ℕ → F) (t : List ℕ) (r : Result A (K × ℕ)) (x : A) → placed fault t r ≡ Ok x → r ≡ Ok x
placed_ok fault t (Ok y) x e = cc
placed_ok fault t (Err d) x e = absurd cc
