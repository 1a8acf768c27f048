-- A text that is refused as a selector could have gone on up to the fault's place.
use Rattle.std.proofs.Common.{◌≡◌, ℕ, zero, suc, ◌-◌, cond, eqb, List, [], ◌∷◌, ◌++◌, length, take, drop, Option, Some, Ok, Err, refl, sym, ap, subst, ◌∙◌, append_assoc, append-nil, arith, inl, inr, ◌⊎◌}
use Rattle.std.specs.Prelude.{codes}
use Rattle.std.proofs.lemmas.List.{take_at}
use Rattle.read_base.specs.Reads.{◌>>=◌, Read, skip, is_at, mark_at, run_at, all_at}
use Rattle.read_base.specs.Spelled.{Spaced, Behind, IsSome}
use Rattle.read_base.specs.Laws.{Spells, Opened, Opens, OpensWhere}
use Rattle.read_base.proofs.StepLemmas.{bind_err, chosen, gap_parts, marked, mark_is, run_is}
use Rattle.read_base.proofs.SpellsLemmas.{two_parts}
use Rattle.read_base.proofs.OpensLemmas.{left_is, run_left, mark_left, all_opens, behind_opens, spaced_opened, front_is, placed_err}
use Rattle.sel_lang.specs.Plain.{Plain, name, narrowed}
use Rattle.sel_lang.specs.Marks.{is_name_byte}
use Rattle.sel_lang.specs.Names.{pick_of, best}
use Rattle.sel_lang.specs.Filters.{filter_at}
use Rattle.sel_lang.specs.Reading.{is_next, behind, filtered, mark_of, joined, joined_at, atom_over, spec_over, atom_at, whole_at, fault_of, sel_of}
use Rattle.sel_lang.specs.Places.{place_of, IsOpen}
use Rattle.sel_lang.specs.Spelled.{IsFilter, IsAtomOver, IsJoined, IsSpecOver, IsAtom, IsSpelled}
use Rattle.sel_lang.specs.declared.sel_kind.SelKind.{SelKind}
use Rattle.sel_lang.specs.declared.sel_kind.SelKind.TheVariants.{Syntax, Quote, Field, Value, Regex, Depth}
use Rattle.sel_lang.specs.declared.sel_fault.SelFault.{SelFault}
use Rattle.sel_lang.specs.declared.joint.Joint.{Joint}
use Rattle.sel_lang.specs.declared.joint.Joint.TheVariants.{Comma, Slash, Plus}
use Rattle.sel_lang.proofs.FilterSpellsLemmas.{filter_spells}
use Rattle.sel_lang.proofs.FilterOpensLemmas.{any, any_head, opens_as, spaced_opens, filter_opens}
use Rattle.sel_lang.proofs.ReadSpellsLemmas.{item_spells, joined_spells, spec_spells, atom_at_spells, no_group, SpellsGroup, group_joins}
use Rattle.sel_lang.proofs.ReadAgainLemmas.{sel_again}

item_opens : {A : Type 0} (mark : ℕ) (item : List ℕ → Read SelKind A) (P : List ℕ → A → Type 0) → Opens any item P → OpensWhere any (is_next mark) (behind item) (Spaced (Behind mark P))
item_opens mark item P law t d h e = spaced_opened any (Behind mark P) t d.1 (behind_opens any mark item P law (skip t) d h e)

-- filters that fail: one of them or more
filtered_opens : (y : Plain) (t : List ℕ) (d : SelKind × ℕ) → filtered y t ≡ Err d → Opened any (IsSome (Spaced (Behind 91 IsFilter))) t d.1
unfolding filtered
filtered_opens y t d e = elim (bind_err (all_at (is_next 91) (behind filter_at) t) (λ fs. Ok (narrowed y fs.0, fs.1)) d e) [
  | inl h ↦ all_opens any (is_next 91) (behind filter_at) (Spaced (Behind 91 IsFilter)) (item_spells 91 filter_at IsFilter filter_spells) (item_opens 91 filter_at IsFilter filter_opens) t d h
  | inr h ↦ absurd cc
]

pub joined_opens : (joint : Joint) (operand : List ℕ → Read SelKind Plain) (P : List ℕ → Plain → Type 0) → Spells operand P → Opens any operand P → Opens any (joined_at joint operand) (IsJoined joint P)
unfolding joined_at
joined_opens joint operand P spells opens t d e = elim (bind_err (operand t) (λ x. all_at (is_next (mark_of joint)) (behind operand) x.1 >>= λ xs. Ok (joined joint x.0 xs.0, xs.1)) d e) [
  | inl e1 ↦
      let o = opens t d e1 in
      record {
        front = o.front;
        behind = o.behind;
        rest = o.rest;
        value = o.value;
        is = (o.front ++ o.behind, [], o.value, [], o.is, refl, sym (append-nil (o.front ++ o.behind)), refl);
        parts = o.parts;
        len = o.len;
        solid = o.solid;
      }
  | inr a ↦ elim (bind_err (all_at (is_next (mark_of joint)) (behind operand) a.0.1) (λ xs. Ok (joined joint a.0.0 xs.0, xs.1)) d a.2) [
    | inl e2 ↦
        let one = spells t a.0 a.1 in
        let o = all_opens any (is_next (mark_of joint)) (behind operand) (Spaced (Behind (mark_of joint) P)) (item_spells (mark_of joint) operand P spells) (item_opens (mark_of joint) operand P opens) a.0.1 d e2 in
        record {
          front = one.0 ++ o.front;
          behind = o.behind;
          rest = o.rest;
          value = joined joint a.0.0 (o.value.0 ∷ o.value.1);
          is = (one.0, o.front ++ o.behind, a.0.0, o.value.0 ∷ o.value.1, one.1, o.is, append_assoc one.0 o.front o.behind, refl);
          parts = two_parts t a.0.1 one.0 o.front o.rest one.2 o.parts;
          len = o.len;
          solid = o.solid;
        }
    | inr b ↦ absurd cc
  ]
]

-- a group fails at its bracket, or behind it
abbrev pub OpensGroup : (List ℕ → Read SelKind Plain) → (List ℕ → Plain → Type 0) → Type 0
OpensGroup group Spec = (t : List ℕ) (d : SelKind × ℕ) → group t ≡ Err d → (d.1 ≡ length t) ⊎ Opened any Spec (drop 1 t) d.1

group_1 : (a b : List ℕ) → (40 ∷ a) ++ (b ++ 41 ∷ []) ≡ 40 ∷ ((a ++ b) ++ ([] ++ 41 ∷ []))
group_1 a b = simp append_assoc refl

group_2 : (a g : List ℕ) → (40 ∷ (a ++ g)) ++ 41 ∷ [] ≡ 40 ∷ (a ++ (g ++ 41 ∷ []))
group_2 a g = simp append_assoc refl

group_3 : (a g f b : List ℕ) → (40 ∷ (a ++ (g ++ 41 ∷ f))) ++ b ≡ 40 ∷ (a ++ (g ++ 41 ∷ (f ++ b)))
group_3 a g f b = simp append_assoc refl

group_front : (t u a r : List ℕ) → t ≡ 40 ∷ u → u ≡ a ++ r → t ≡ (40 ∷ a) ++ r
group_front t u a r e1 e2 = rw (e1, e2) refl

group_front_2 : (t u w a g r : List ℕ) → t ≡ 40 ∷ u → u ≡ a ++ w → w ≡ g ++ r → t ≡ (40 ∷ (a ++ g)) ++ r
group_front_2 t u w a g r e1 e2 e3 = rw (e1, e2, e3) (simp append_assoc refl)

-- the least selector
name_a : (Spec : List ℕ → Plain → Type 0) → IsAtomOver Spec (codes "a") (name (pick_of (codes "a")))
name_a Spec = inl (codes "a", [], codes "a", (refl, omega arith, (refl, tt)), ([], refl, refl), refl)

atom_opens : (group : List ℕ → Read SelKind Plain) (Spec : List ℕ → Plain → Type 0) → SpellsGroup group Spec → OpensGroup group Spec → Opens any (atom_over group) (IsAtomOver Spec)
unfolding atom_over
atom_opens group Spec spells opens t d e = elim (chosen (is_at 40 t) _ _ _ e) [
  | inl h ↦
      let here = marked 40 t h.0 in
      elim (bind_err (group t) (λ x. mark_at Syntax 41 (skip x.1) >>= λ rest. filtered x.0 rest) d h.1) [
        | inl e1 ↦ elim (opens t d e1) [
          | inl left ↦ opens_as (IsAtomOver Spec) t (codes "a") (name (pick_of (codes "a"))) d.1 (name_a Spec) left
          | inr o ↦
              record {
                front = 40 ∷ o.front;
                behind = o.behind ++ 41 ∷ [];
                rest = o.rest;
                value = o.value;
                is = inr (inr (o.front ++ o.behind, [], [], o.value, o.is, tt, ([], refl, refl), group_1 o.front o.behind));
                parts = group_front t (drop 1 t) o.front o.rest here o.parts;
                len = o.len;
                solid = o.solid;
              }
        ]
        | inr a ↦
            let inner = spells t a.0 a.1 in
            let gap = gap_parts a.0.1 in
            elim (bind_err (mark_at Syntax 41 (skip a.0.1)) (λ rest. filtered a.0.0 rest) d a.2) [
              | inl e2 ↦
                  record {
                    front = 40 ∷ (inner.0 ++ gap.0);
                    behind = 41 ∷ [];
                    rest = skip a.0.1;
                    value = a.0.0;
                    is = inr (inr (inner.0, gap.0, [], a.0.0, inner.1, gap.1, ([], refl, refl), group_2 inner.0 gap.0));
                    parts = group_front_2 t (drop 1 t) a.0.1 inner.0 gap.0 (skip a.0.1) here inner.2 gap.2;
                    len = sym (mark_left Syntax 41 (skip a.0.1) d e2);
                    solid = any_head (skip a.0.1);
                  }
              | inr b ↦
                  let o = filtered_opens a.0.0 b.0 d b.2 in
                  record {
                    front = 40 ∷ (inner.0 ++ (gap.0 ++ 41 ∷ o.front));
                    behind = o.behind;
                    rest = o.rest;
                    value = narrowed a.0.0 (o.value.0 ∷ o.value.1);
                    is = inr (inr (inner.0, gap.0, o.front ++ o.behind, a.0.0, inner.1, gap.1, (o.value.0 ∷ o.value.1, o.is, refl), group_3 inner.0 gap.0 o.front o.behind));
                    parts = group_joins t (drop 1 t) a.0.1 (skip a.0.1) b.0 inner.0 gap.0 o.front o.rest here inner.2 gap.2 (mark_is Syntax 41 (skip a.0.1) b.0 b.1) o.parts;
                    len = o.len;
                    solid = o.solid;
                  }
            ]
      ]
  | inr h ↦ elim (chosen (is_at 91 t) _ _ _ h.1) [
    | inl k ↦
        let o = filtered_opens (name best) t d k.1 in
        record {
          front = o.front;
          behind = o.behind;
          rest = o.rest;
          value = narrowed (name best) (o.value.0 ∷ o.value.1);
          is = inr (inl (o.value.0, o.value.1, o.is, refl));
          parts = o.parts;
          len = o.len;
          solid = o.solid;
        }
    | inr k ↦ elim (bind_err (run_at Syntax is_name_byte t) (λ word. filtered (name (pick_of word.0)) word.1) d k.1) [
      | inl e1 ↦ opens_as (IsAtomOver Spec) t (codes "a") (name (pick_of (codes "a"))) d.1 (name_a Spec) (run_left Syntax is_name_byte t d e1)
      | inr a ↦
          let run = run_is Syntax is_name_byte t a.0 a.1 in
          let o = filtered_opens (name (pick_of a.0.0)) a.0.1 d a.2 in
          record {
            front = a.0.0 ++ o.front;
            behind = o.behind;
            rest = o.rest;
            value = narrowed (name (pick_of a.0.0)) (o.value.0 ∷ o.value.1);
            is = inl (a.0.0, o.front ++ o.behind, a.0.0, (refl, run.some, run.all), (o.value.0 ∷ o.value.1, o.is, refl), append_assoc a.0.0 o.front o.behind);
            parts = two_parts t a.0.1 a.0.0 o.front o.rest run.parts o.parts;
            len = o.len;
            solid = o.solid;
          }
    ]
  ]
]

pub spec_opens : (operand : List ℕ → Read SelKind Plain) (P : List ℕ → Plain → Type 0) → Spells operand P → Opens any operand P → Opens any (spec_over operand) (IsSpecOver P)
spec_opens operand P spells opens =
    let plus = joined_spells Plus operand P spells in
    let slash = joined_spells Slash (joined_at Plus operand) (IsJoined Plus P) plus in
    joined_opens Comma (joined_at Slash (joined_at Plus operand)) (IsJoined Slash (IsJoined Plus P)) slash
    (joined_opens Slash (joined_at Plus operand) (IsJoined Plus P) plus (joined_opens Plus operand P spells opens))

too_deep : OpensGroup (λ p. Err (Depth, length p)) (λ s x. ⊥)
too_deep t d e = inl (left_is {A = Plain × List ℕ} Depth (length t) d e)

pub atom_at_opens : (groups : ℕ) → Opens any (atom_at groups) (IsAtom groups)
unfolding atom_at
atom_at_opens zero = spaced_opens (atom_over (λ p. Err (Depth, length p))) (IsAtomOver (λ s x. ⊥)) (atom_opens (λ p. Err (Depth, length p)) (λ s x. ⊥) no_group too_deep)
atom_at_opens (suc groups) = spaced_opens (atom_over (λ p. spec_over (atom_at groups) (drop 1 p))) (IsAtomOver (IsSpecOver (IsAtom groups)))
    (atom_opens (λ p. spec_over (atom_at groups) (drop 1 p)) (IsSpecOver (IsAtom groups)) (λ t p e. spec_spells (atom_at groups) (IsAtom groups) (atom_at_spells groups) (drop 1 t) p e)
    (λ t d e. inr (spec_opens (atom_at groups) (IsAtom groups) (atom_at_spells groups) (atom_at_opens groups) (drop 1 t) d e)))

pub whole_opens : (t : List ℕ) (d : SelKind × ℕ) → whole_at t ≡ Err d → Opened any IsSpelled t d.1
unfolding whole_at
whole_opens t d e = elim (bind_err (spec_over (atom_at 64) t) (λ y. cond (eqb (length (skip y.1)) 0) (Ok y.0) (Err (Syntax, length (skip y.1)))) d e) [
  | inl e1 ↦
      let o = spec_opens (atom_at 64) (IsAtom 64) (atom_at_spells 64) (atom_at_opens 64) t d e1 in
      record { front = o.front; behind = o.behind; rest = o.rest; value = o.value; is = (o.front ++ o.behind, [], o.is, tt, sym (append-nil (o.front ++ o.behind))); parts = o.parts; len = o.len; solid = o.solid }
  | inr a ↦
      let spec = spec_spells (atom_at 64) (IsAtom 64) (atom_at_spells 64) t a.0 a.1 in
      let gap = gap_parts a.0.1 in
      elim (chosen (eqb (length (skip a.0.1)) 0) _ _ _ a.2) [
        | inl h ↦ absurd cc
        | inr h ↦
            record {
              front = spec.0 ++ gap.0;
              behind = [];
              rest = skip a.0.1;
              value = a.0.0;
              is = (spec.0, gap.0, spec.1, gap.1, append-nil (spec.0 ++ gap.0));
              parts = two_parts t a.0.1 spec.0 gap.0 (skip a.0.1) spec.2 gap.2;
              len = sym (left_is {A = Plain} Syntax (length (skip a.0.1)) d h.1);
              solid = any_head (skip a.0.1);
            }
      ]
]

place_is : (kind : SelKind) (n : ℕ) → place_of (fault_of kind n) ≡ Some n
place_is Syntax n = refl
place_is Quote n = refl
place_is Field n = refl
place_is Value n = refl
place_is Regex n = refl
place_is Depth n = refl

some_is : (n m : ℕ) → ◌≡◌ {A = Option ℕ} (Some n) (Some m) → n ≡ m
some_is n m e = cc

-- the text before the place of a fault can go on so that it is accepted
pub front_open : (front rest : List ℕ) (fault : SelFault) → sel_of (front ++ rest) ≡ Err fault → place_of fault ≡ Some (length front) → IsOpen front
front_open front rest fault e h =
    let t = front ++ rest in
    let d = placed_err fault_of t (whole_at t) fault e in
    let o = whole_opens t d.0 d.1 in
    let place : length t - d.0.1 ≡ length front = some_is (length t - d.0.1) (length front) (sym (place_is d.0.0 (length t - d.0.1)) ∙ ap place_of d.2 ∙ h) in
    let here : o.front ≡ front = sym (front_is t o.front o.rest d.0.1 o.parts o.len) ∙ ap (λ (n : ℕ). take n t) place ∙ take_at front rest (length front) refl in
    let is : IsSpelled (front ++ o.behind) o.value = subst (λ (l : List ℕ). IsSpelled (l ++ o.behind) o.value) here o.is in
    (o.behind, o.value, sel_again (front ++ o.behind) o.value is)
