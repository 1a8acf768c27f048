-- What is read as a selector is spelled so.
use Rattle.std.proofs.Common.{◌≡◌, ℕ, zero, suc, true, false, cond, eqb, List, [], ◌∷◌, ◌++◌, length, drop, Result, Ok, Err, refl, sym, ap, subst, ◌∙◌, append_assoc, arith, inl, inr}
use Rattle.std.specs.Prelude.{◌==◌}
use Rattle.std.proofs.lemmas.Bool.{eqb-true, eq-eqb}
use Rattle.std.proofs.lemmas.List.{append-nil, nil_from_length}
use Rattle.read_base.specs.Reads.{◌>>=◌, Read, skip, is_at, mark_at, run_at, more, all_at}
use Rattle.read_base.specs.Spelled.{IsGap, Spaced, Behind, IsMore}
use Rattle.read_base.specs.Laws.{Takes, Spells, SpellsWhere}
use Rattle.read_base.proofs.StepLemmas.{bind_ok, ok_is, chosen, gap_parts, marked, mark_is, run_is}
use Rattle.read_base.proofs.SpellsLemmas.{all_spells, spaced_spells, spaced_where, behind_spells}
use Rattle.read_base.proofs.OpensLemmas.{placed_ok}
use Rattle.sel_lang.specs.Plain.{Plain, PlainFilter, name, narrowed}
use Rattle.sel_lang.specs.Marks.{is_name_byte}
use Rattle.sel_lang.specs.Names.{pick_of, best}
use Rattle.sel_lang.specs.Filters.{filter_at}
use Rattle.sel_lang.specs.Reading.{is_next, behind, filtered, mark_of, joined, joined_at, atom_over, spec_over, atom_at, whole_at, fault_of, sel_of}
use Rattle.sel_lang.specs.Spelled.{IsFilter, IsFiltered, IsAtomOver, IsJoined, IsSpecOver, IsAtom, IsSpelled}
use Rattle.sel_lang.specs.declared.sel_kind.SelKind.{SelKind}
use Rattle.sel_lang.specs.declared.sel_kind.SelKind.TheVariants.{Syntax, Depth}
use Rattle.sel_lang.specs.declared.joint.Joint.{Joint}
use Rattle.sel_lang.specs.declared.joint.Joint.TheVariants.{Comma, Slash, Plus}
use Rattle.sel_lang.proofs.FilterSpellsLemmas.{filter_spells}

abbrev read : {A : Type 0} → A → Result A (SelKind × ℕ)
read x = Ok x

read_is : {A : Type 0} (x y : A) → read x ≡ read y → x ≡ y
read_is x y e = ok_is {K = SelKind} x y e

-- an item behind the mark that is the next token
pub item_spells : {A : Type 0} (mark : ℕ) (item : List ℕ → Read SelKind A) (P : List ℕ → A → Type 0) → Spells item P → SpellsWhere (is_next mark) (behind item) (Spaced (Behind mark P))
item_spells mark item P law = spaced_where (is_at mark) (λ t. item (drop 1 t)) (Behind mark P) (behind_spells mark item P law)

filters_spell : Spells (all_at (is_next 91) (behind filter_at)) (IsMore (Spaced (Behind 91 IsFilter)))
filters_spell = all_spells (is_next 91) (behind filter_at) (Spaced (Behind 91 IsFilter)) (item_spells 91 filter_at IsFilter filter_spells)

pub filtered_spells : (y : Plain) → Spells (filtered y) (IsFiltered y)
unfolding filtered
filtered_spells y t p e =
    let a = bind_ok (all_at (is_next 91) (behind filter_at) t) (λ fs. Ok (narrowed y fs.0, fs.1)) p e in
    let fs = filters_spell t a.0 a.1 in
    subst (λ (q : Plain × List ℕ). Takes (IsFiltered y) t q) (read_is (narrowed y a.0.0, a.0.1) p a.2) (fs.0, (a.0.0, fs.1, refl), fs.2)

pub joined_spells : (joint : Joint) (operand : List ℕ → Read SelKind Plain) (P : List ℕ → Plain → Type 0) → Spells operand P → Spells (joined_at joint operand) (IsJoined joint P)
unfolding joined_at
joined_spells joint operand P law t p e =
    let a = bind_ok (operand t) (λ x. all_at (is_next (mark_of joint)) (behind operand) x.1 >>= λ xs. Ok (joined joint x.0 xs.0, xs.1)) p e in
    let b = bind_ok (all_at (is_next (mark_of joint)) (behind operand) a.0.1) (λ xs. Ok (joined joint a.0.0 xs.0, xs.1)) p a.2 in
    let one = law t a.0 a.1 in
    let others = all_spells (is_next (mark_of joint)) (behind operand) (Spaced (Behind (mark_of joint) P)) (item_spells (mark_of joint) operand P law) a.0.1 b.0 b.1 in
    subst (λ (q : Plain × List ℕ). Takes (IsJoined joint P) t q) (read_is (joined joint a.0.0 b.0.0, b.0.1) p b.2)
    (one.0 ++ others.0, (one.0, others.0, a.0.0, b.0.0, one.1, others.1, refl, refl), one.2 ∙ ap (λ (l : List ℕ). one.0 ++ l) others.2 ∙ sym (append_assoc one.0 others.0 b.0.1))

pub group_joins : (t t1 t2 t3 t4 inner gap rest r : List ℕ) → t ≡ 40 ∷ t1 → t1 ≡ inner ++ t2 → t2 ≡ gap ++ t3 → t3 ≡ 41 ∷ t4 → t4 ≡ rest ++ r → t ≡ (40 ∷ (inner ++ (gap ++ 41 ∷ rest))) ++ r
group_joins t t1 t2 t3 t4 inner gap rest r e1 e2 e3 e4 e5 = rw (e1, e2, e3, e4, e5) (simp append_assoc)

-- what a group's reader takes stands behind the bracket
abbrev pub SpellsGroup : (List ℕ → Read SelKind Plain) → (List ℕ → Plain → Type 0) → Type 0
SpellsGroup group Spec = (t : List ℕ) (p : Plain × List ℕ) → group t ≡ Ok p → Takes Spec (drop 1 t) p

some_read : (n : ℕ) (t r : List ℕ) → is_next 91 t ≡ true → more (is_next 91) (behind filter_at) (suc n) t ≡ Ok ([], r) → ⊥
unfolding more
some_read n t r h e = elim (chosen (is_next 91 t) _ _ _ e) [
  | inl k ↦
      let a = bind_ok (behind filter_at t) (λ x. more (is_next 91) (behind filter_at) n x.1 >>= λ xs. Ok (x.0 ∷ xs.0, xs.1)) ([], r) k.1 in
      let b = bind_ok (more (is_next 91) (behind filter_at) n a.0.1) (λ xs. Ok (a.0.0 ∷ xs.0, xs.1)) ([], r) a.2 in
      let q = read_is (a.0.0 ∷ b.0.0, b.0.1) ([], r) b.2 in
      let l : suc (length b.0.0) ≡ 0 = ap (λ (z : List PlainFilter × List ℕ). length z.0) q in
      omega (arith, l)
  | inr k ↦ absurd cc
]

not_spaced : (mark : ℕ) (t : List ℕ) → (mark == 32) ≡ false → is_at mark t ≡ true → is_at mark (skip t) ≡ true
not_spaced mark [] k h = absurd cc
not_spaced mark (b ∷ bs) k h = rw (eqb-true b mark h, k) (eq-eqb mark mark refl)

best_by : (Spec : List ℕ → Plain → Type 0) (t : List ℕ) (fs : List PlainFilter) (r : List ℕ) (p : Plain × List ℕ) → is_at 91 t ≡ true → all_at (is_next 91) (behind filter_at) t ≡ Ok (fs, r) → read (narrowed (name best) fs, r) ≡ Ok p → Takes (IsAtomOver Spec) t p
best_by Spec [] fs r p h e1 e2 = absurd cc
best_by Spec (b ∷ bs) [] r p h e1 e2 = absurd (some_read (length bs) (b ∷ bs) r (not_spaced 91 (b ∷ bs) refl h) e1)
best_by Spec (b ∷ bs) (f ∷ fs) r p h e1 e2 =
    let taken = filters_spell (b ∷ bs) (f ∷ fs, r) e1 in
    subst (λ (q : Plain × List ℕ). Takes (IsAtomOver Spec) (b ∷ bs) q) (read_is (narrowed (name best) (f ∷ fs), r) p e2) (taken.0, inr (inl (f, fs, taken.1, refl)), taken.2)

best_spells : (Spec : List ℕ → Plain → Type 0) (t : List ℕ) (p : Plain × List ℕ) → is_at 91 t ≡ true → filtered (name best) t ≡ Ok p → Takes (IsAtomOver Spec) t p
unfolding filtered
best_spells Spec t p h e =
    let a = bind_ok (all_at (is_next 91) (behind filter_at) t) (λ fs. Ok (narrowed (name best) fs.0, fs.1)) p e in
    best_by Spec t a.0.0 a.0.1 p h a.1 a.2

atom_spells : (group : List ℕ → Read SelKind Plain) (Spec : List ℕ → Plain → Type 0) → SpellsGroup group Spec → Spells (atom_over group) (IsAtomOver Spec)
unfolding atom_over
atom_spells group Spec law t p e = elim (chosen (is_at 40 t) _ _ _ e) [
  | inl h ↦
      let a = bind_ok (group t) (λ x. mark_at Syntax 41 (skip x.1) >>= λ rest. filtered x.0 rest) p h.1 in
      let b = bind_ok (mark_at Syntax 41 (skip a.0.1)) (λ rest. filtered a.0.0 rest) p a.2 in
      let inner = law t a.0 a.1 in
      let gap = gap_parts a.0.1 in
      let rest = filtered_spells a.0.0 b.0 p b.2 in
      let parts = group_joins t (drop 1 t) a.0.1 (skip a.0.1) b.0 inner.0 gap.0 rest.0 p.1 (marked 40 t h.0) inner.2 gap.2 (mark_is Syntax 41 (skip a.0.1) b.0 b.1) rest.2 in
      (40 ∷ (inner.0 ++ (gap.0 ++ 41 ∷ rest.0)), inr (inr (inner.0, gap.0, rest.0, a.0.0, inner.1, gap.1, rest.1, refl)), parts)
  | inr h ↦ elim (chosen (is_at 91 t) _ _ _ h.1) [
    | inl k ↦ best_spells Spec t p k.0 k.1
    | inr k ↦
        let a = bind_ok (run_at Syntax is_name_byte t) (λ word. filtered (name (pick_of word.0)) word.1) p k.1 in
        let run = run_is Syntax is_name_byte t a.0 a.1 in
        let rest = filtered_spells (name (pick_of a.0.0)) a.0.1 p a.2 in
        (a.0.0 ++ rest.0, inl (a.0.0, rest.0, a.0.0, (refl, run.some, run.all), rest.1, refl), run.parts ∙ ap (λ (l : List ℕ). a.0.0 ++ l) rest.2 ∙ sym (append_assoc a.0.0 rest.0 p.1))
  ]
]

pub no_group : SpellsGroup (λ p. Err (Depth, length p)) (λ s x. ⊥)
no_group t p e = absurd cc

pub spec_spells : (operand : List ℕ → Read SelKind Plain) (P : List ℕ → Plain → Type 0) → Spells operand P → Spells (spec_over operand) (IsSpecOver P)
spec_spells operand P law =
    joined_spells Comma (joined_at Slash (joined_at Plus operand)) (IsJoined Slash (IsJoined Plus P))
    (joined_spells Slash (joined_at Plus operand) (IsJoined Plus P) (joined_spells Plus operand P law))

pub atom_at_spells : (groups : ℕ) → Spells (atom_at groups) (IsAtom groups)
unfolding atom_at
atom_at_spells zero = spaced_spells (atom_over (λ p. Err (Depth, length p))) (IsAtomOver (λ s x. ⊥)) (atom_spells (λ p. Err (Depth, length p)) (λ s x. ⊥) no_group)
atom_at_spells (suc groups) = spaced_spells (atom_over (λ p. spec_over (atom_at groups) (drop 1 p))) (IsAtomOver (IsSpecOver (IsAtom groups)))
    (atom_spells (λ p. spec_over (atom_at groups) (drop 1 p)) (IsSpecOver (IsAtom groups)) (λ t p e. spec_spells (atom_at groups) (IsAtom groups) (atom_at_spells groups) (drop 1 t) p e))

all_skipped : (t : List ℕ) → length (skip t) ≡ 0 → IsGap t
all_skipped t h = let gap = gap_parts t in subst IsGap (sym (gap.2 ∙ ap (λ (l : List ℕ). gap.0 ++ l) (nil_from_length (skip t) h) ∙ append-nil gap.0)) gap.1

pub whole_spells : (t : List ℕ) (x : Plain) → whole_at t ≡ Ok x → IsSpelled t x
unfolding whole_at
whole_spells t x e =
    let a = bind_ok (spec_over (atom_at 64) t) (λ y. cond (eqb (length (skip y.1)) 0) (Ok y.0) (Err (Syntax, length (skip y.1)))) x e in
    let spec = spec_spells (atom_at 64) (IsAtom 64) (atom_at_spells 64) t a.0 a.1 in
    elim (chosen (eqb (length (skip a.0.1)) 0) _ _ _ a.2) [
      | inl h ↦ subst (IsSpelled t) (read_is a.0.0 x h.1) (spec.0, a.0.1, spec.1, all_skipped a.0.1 (eqb-true _ _ h.0), spec.2)
      | inr h ↦ absurd cc
    ]

pub sel_spells : (t : List ℕ) (x : Plain) → sel_of t ≡ Ok x → IsSpelled t x
sel_spells t x e = whole_spells t x (placed_ok fault_of t (whole_at t) x e)
