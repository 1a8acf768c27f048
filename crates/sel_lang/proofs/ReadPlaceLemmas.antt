-- No settled fault of a selector stands at a space.
use Rattle.std.proofs.Common.{◌≡◌, ℕ, zero, suc, true, false, cond, eqb, List, [], ◌∷◌, ◌++◌, length, drop, Ok, Err, refl, sym, ap, subst, ◌∙◌, arith, inl, inr}
use Rattle.std.specs.Prelude.{◌==◌}
use Rattle.std.proofs.lemmas.Bool.{not-true}
use Rattle.std.proofs.lemmas.List.{drop_at, length-append}
use Rattle.read_base.specs.Reads.{◌>>=◌, Read, skip, is_at, mark_at, run_at, all_at}
use Rattle.read_base.specs.Laws.{head_is}
use Rattle.read_base.proofs.StepLemmas.{bind_err, chosen, gap_parts}
use Rattle.read_base.proofs.SpellsLemmas.{two_parts}
use Rattle.read_base.proofs.OpensLemmas.{left_is}
use Rattle.sel_lang.specs.Plain.{Plain, name, narrowed}
use Rattle.sel_lang.specs.Marks.{is_name_byte}
use Rattle.sel_lang.specs.Names.{pick_of, best}
use Rattle.sel_lang.specs.Places.{is_settled}
use Rattle.sel_lang.specs.Filters.{filter_at}
use Rattle.sel_lang.specs.Reading.{is_next, behind, filtered, mark_of, joined, joined_at, atom_over, spec_over, atom_at, whole_at}
use Rattle.sel_lang.specs.Spelled.{IsAtom}
use Rattle.sel_lang.specs.declared.sel_kind.SelKind.{SelKind}
use Rattle.sel_lang.specs.declared.sel_kind.SelKind.TheVariants.{Syntax, Depth}
use Rattle.sel_lang.specs.declared.joint.Joint.{Joint}
use Rattle.sel_lang.specs.declared.joint.Joint.TheVariants.{Comma, Slash, Plus}
use Rattle.sel_lang.proofs.ReadSpellsLemmas.{spec_spells, atom_at_spells}
use Rattle.sel_lang.proofs.PlaceLemmas.{no_space, Solid, Stands, skip_solid, spaced_stands, drop_stands, behind_stands, front_stands, cond_stands, bind_stands, run_stands, mark_stands, all_stand}
use Rattle.sel_lang.proofs.FilterPlaceLemmas.{filter_stands}

items_stand : {A : Type 0} (mark : ℕ) (item : List ℕ → Read SelKind A) → ((t : List ℕ) → Stands t (item t)) → (t : List ℕ) → Stands t (all_at (is_next mark) (behind item) t)
items_stand mark item law t = all_stand (is_next mark) (behind item) (λ u. behind_stands u (item (drop 1 (skip u))) (law (drop 1 (skip u)))) t

filtered_stands : (y : Plain) (t : List ℕ) → Stands t (filtered y t)
unfolding filtered
filtered_stands y t = bind_stands t (all_at (is_next 91) (behind filter_at) t) (λ fs r. Ok (narrowed y fs, r)) (items_stand 91 filter_at filter_stands t) (λ fs r. ([], refl))

joined_stands : (joint : Joint) (operand : List ℕ → Read SelKind Plain) → ((t : List ℕ) → Stands t (operand t)) → (t : List ℕ) → Stands t (joined_at joint operand t)
unfolding joined_at
joined_stands joint operand law t =
    bind_stands t (operand t) (λ x r. all_at (is_next (mark_of joint)) (behind operand) r >>= λ xs. Ok (joined joint x xs.0, xs.1)) (law t)
    (λ x r. bind_stands r (all_at (is_next (mark_of joint)) (behind operand) r) (λ xs q. Ok (joined joint x xs, q)) (items_stand (mark_of joint) operand law r) (λ xs q. ([], refl)))

atom_stands : (group : List ℕ → Read SelKind Plain) → ((t : List ℕ) → head_is no_space t ≡ true → Stands t (group t)) → (t : List ℕ) → head_is no_space t ≡ true → Stands t (atom_over group t)
unfolding atom_over
atom_stands group law t h =
    cond_stands (is_at 40 t) t (group t >>= λ x. mark_at Syntax 41 (skip x.1) >>= λ rest. filtered x.0 rest) (cond (is_at 91 t) (filtered (name best) t) (run_at Syntax is_name_byte t >>= λ word. filtered (name (pick_of word.0)) word.1))
    (bind_stands t (group t) (λ x r. mark_at Syntax 41 (skip r) >>= λ rest. filtered x rest) (law t h)
    (λ x r. spaced_stands r (mark_at Syntax 41 (skip r) >>= λ rest. filtered x rest) (mark_stands 41 (skip r) (filtered x) (skip_solid r) (filtered_stands x))))
    (cond_stands (is_at 91 t) t (filtered (name best) t) (run_at Syntax is_name_byte t >>= λ word. filtered (name (pick_of word.0)) word.1) (filtered_stands (name best) t)
    (bind_stands t (run_at Syntax is_name_byte t) (λ w r. filtered (name (pick_of w)) r) (run_stands is_name_byte t h) (λ w r. filtered_stands (name (pick_of w)) r)))

spec_stands : (operand : List ℕ → Read SelKind Plain) → ((t : List ℕ) → Stands t (operand t)) → (t : List ℕ) → Stands t (spec_over operand t)
spec_stands operand law t =
    joined_stands Comma (joined_at Slash (joined_at Plus operand)) (λ u. joined_stands Slash (joined_at Plus operand) (λ v. joined_stands Plus operand law v) u) t

drop_spec : (operand : List ℕ → Read SelKind Plain) → ((t : List ℕ) → Stands t (operand t)) → (t : List ℕ) → head_is no_space t ≡ true → Stands t (spec_over operand (drop 1 t))
drop_spec operand law t h = drop_stands t (spec_over operand (drop 1 t)) (spec_stands operand law (drop 1 t))

atom_at_stands : (groups : ℕ) (t : List ℕ) → Stands t (atom_at groups t)
unfolding atom_at
atom_at_stands zero t = spaced_stands t (atom_over (λ p. Err (Depth, length p)) (skip t)) (atom_stands (λ p. Err (Depth, length p)) (λ u h. front_stands Plain Depth u h) (skip t) (skip_solid t))
atom_at_stands (suc groups) t = spaced_stands t (atom_over (λ p. spec_over (atom_at groups) (drop 1 p)) (skip t))
    (atom_stands (λ p. spec_over (atom_at groups) (drop 1 p)) (drop_spec (atom_at groups) (atom_at_stands groups)) (skip t) (skip_solid t))

abbrev failed : SelKind × ℕ → Read SelKind Plain
failed d = Err d

pub whole_solid : (t : List ℕ) (d : SelKind × ℕ) → whole_at t ≡ Err d → is_settled d.0 ≡ true → Solid t d.1
unfolding whole_at
whole_solid t d e l = elim (bind_err (spec_over (atom_at 64) t) (λ y. cond (eqb (length (skip y.1)) 0) (Ok y.0) (Err (Syntax, length (skip y.1)))) d e) [
  | inl e1 ↦
      let so : Stands t (failed d) = subst (λ (z : Read SelKind Plain). Stands t z) e1 (spec_stands (atom_at 64) (atom_at_stands 64) t) in
      so l
  | inr a ↦
      let spec = spec_spells (atom_at 64) (IsAtom 64) (atom_at_spells 64) t a.0 a.1 in
      let gap = gap_parts a.0.1 in
      elim (chosen (eqb (length (skip a.0.1)) 0) _ _ _ a.2) [
        | inl h ↦ absurd cc
        | inr h ↦ (spec.0 ++ gap.0, skip a.0.1, two_parts t a.0.1 spec.0 gap.0 (skip a.0.1) spec.2 gap.2, sym (left_is {A = Plain} Syntax (length (skip a.0.1)) d h.1), skip_solid a.0.1)
      ]
]

-- two ends of a text that are as long are the same
same_rest : (front rest o p : List ℕ) → front ++ rest ≡ o ++ p → length p ≡ length rest → p ≡ rest
same_rest front rest o p e l =
    let n : length o ≡ length front = omega (arith, ap length e, l, length-append front rest, length-append o p) in
    sym (drop_at o p (length o) refl) ∙ ap (λ (t : List ℕ). drop (length o) t) (sym e) ∙ ap (λ (k : ℕ). drop k (front ++ rest)) n ∙ drop_at front rest (length front) refl

-- the byte at the place of a settled fault is no space
pub solid_byte : (front : List ℕ) (a : ℕ) (rest : List ℕ) (kind : SelKind) → is_settled kind ≡ true → whole_at (front ++ a ∷ rest) ≡ Err (kind, length (a ∷ rest)) → (a == 32) ≡ false
solid_byte front a rest kind l e =
    let o = whole_solid (front ++ a ∷ rest) (kind, length (a ∷ rest)) e l in
    let same : o.1 ≡ a ∷ rest = same_rest front (a ∷ rest) o.0 o.1 o.2 o.3 in
    let here : head_is no_space (a ∷ rest) ≡ true = subst (λ (t : List ℕ). head_is no_space t ≡ true) same o.4 in
    not-true (a == 32) here
