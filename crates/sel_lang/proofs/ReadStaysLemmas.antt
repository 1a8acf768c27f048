-- A settled fault of a selector stays, whatever follows the bytes that settle it.
use Rattle.std.proofs.Common.{◌≡◌, ℕ, zero, suc, ◌+◌, ◌-◌, ◌<◌, ◌≤◌, Bool, true, false, cond, eqb, List, [], ◌∷◌, ◌++◌, length, drop, Ok, Err, refl, sym, ap, subst, ◌∙◌, arith, inl, inr}
use Rattle.std.specs.Prelude.{◌==◌}
use Rattle.std.proofs.lemmas.Bool.{eqb-true, eq-eqb, ne_eqb}
use Rattle.std.proofs.lemmas.List.{nil_from_length, length-append}
use Rattle.read_base.specs.Reads.{◌>>=◌, Or, Read, skip, is_at, mark_at, run_at, all_at}
use Rattle.read_base.specs.Laws.{Spells, Settling, Twin, Within, Moved, Local}
use Rattle.read_base.proofs.StepLemmas.{chosen, err_is, gap_parts}
use Rattle.read_base.proofs.LocalLemmas.{pure_local, stop_local, cond_local, skip_local, drop_local, then_local, is_at_near, skip_near, mark_local, run_local, all_local, twin_skip, skip_append}
use Rattle.sel_lang.specs.Plain.{Plain, name, narrowed}
use Rattle.sel_lang.specs.Marks.{is_name_byte}
use Rattle.sel_lang.specs.Names.{pick_of, best}
use Rattle.sel_lang.specs.Places.{is_settled, settling_bytes, Settle}
use Rattle.sel_lang.specs.Filters.{filter_at}
use Rattle.sel_lang.specs.Reading.{is_next, behind, filtered, mark_of, joined, joined_at, atom_over, spec_over, atom_at, whole_at}
use Rattle.sel_lang.specs.Spelled.{IsFilter, IsJoined, IsAtom}
use Rattle.sel_lang.specs.declared.sel_kind.SelKind.{SelKind}
use Rattle.sel_lang.specs.declared.sel_kind.SelKind.TheVariants.{Syntax, Depth}
use Rattle.sel_lang.specs.declared.joint.Joint.{Joint}
use Rattle.sel_lang.specs.declared.joint.Joint.TheVariants.{Comma, Slash, Plus}
use Rattle.sel_lang.proofs.FilterSpellsLemmas.{filter_spells}
use Rattle.sel_lang.proofs.ReadSpellsLemmas.{item_spells, joined_spells, atom_at_spells}
use Rattle.sel_lang.proofs.PlaceLemmas.{false_true}
use Rattle.sel_lang.proofs.ReadPlaceLemmas.{solid_byte}
use Rattle.sel_lang.proofs.FilterStaysLemmas.{settling, Sees, filter_local}

-- an item behind a mark takes a byte at least
item_some : {A : Type 0} (mark : ℕ) (item : List ℕ → Read SelKind A) (P : List ℕ → A → Type 0) → Spells item P → (t : List ℕ) (p : A × List ℕ) → is_next mark t ≡ true → behind item t ≡ Ok p → length p.1 < length t
item_some mark item P law t p h e =
    let one = item_spells mark item P law t p h e in
    let is = one.1 in
    omega (arith, ap length one.2, length-append one.0 p.1, ap length is.parts, length-append is.gap is.rest, ap length is.is.2)

abbrev end_of : Plain × List ℕ → Or SelKind Plain
end_of y = cond (eqb (length (skip y.1)) 0) (Ok y.0) (Err (Syntax, length (skip y.1)))

skip_len : (t : List ℕ) → length (skip t) ≤ length t
skip_len t = let gap = gap_parts t in omega (arith, ap length gap.2, length-append gap.0 (skip t))

end_left : (x : Plain) (r c : List ℕ) (k : SelKind) → end_of (x, r) ≡ Err (k, length c) → length c ≤ length r
end_left x r c k e = elim (chosen (eqb (length (skip r)) 0) _ _ _ e) [
  | inl h ↦ absurd cc
  | inr h ↦ omega (arith, skip_len r, ap (λ (z : SelKind × ℕ). z.1) (err_is {A = Plain} (Syntax, length (skip r)) (k, length c) h.1))
]

cut_len : (c d : List ℕ) → length c - length c + length d ≡ length d
cut_len c d = omega arith

module _ (n : ℕ) (first : ℕ → Bool) (sees : Sees n first) where
  abbrev S : Settling SelKind
  S = settling n first

  items_local : {A : Type 0} (mark : ℕ) (item : List ℕ → Read SelKind A) (P : List ℕ → A → Type 0) → Spells item P → Local S item → Local S (all_at (is_next mark) (behind item))
  items_local mark item P spells law = all_local S (is_next mark) (behind item) refl (item_some mark item P spells) (skip_near S (is_at mark) sees.none (is_at_near S mark))
      (skip_local S (λ t. item (drop 1 t)) sees.none (drop_local S 1 item law))

  filtered_local : (y : Plain) → Local S (filtered y)
  unfolding filtered
  filtered_local y = then_local S (all_at (is_next 91) (behind filter_at)) (λ fs r. Ok (narrowed y fs, r)) (items_local 91 filter_at IsFilter filter_spells (filter_local n first sees)) (λ fs. pure_local S (narrowed y fs))

  joined_local : (joint : Joint) (operand : List ℕ → Read SelKind Plain) (P : List ℕ → Plain → Type 0) → Spells operand P → Local S operand → Local S (joined_at joint operand)
  unfolding joined_at
  joined_local joint operand P spells law =
      then_local S operand (λ x r. all_at (is_next (mark_of joint)) (behind operand) r >>= λ xs. Ok (joined joint x xs.0, xs.1)) law
      (λ x. then_local S (all_at (is_next (mark_of joint)) (behind operand)) (λ xs r. Ok (joined joint x xs, r)) (items_local (mark_of joint) operand P spells law) (λ xs. pure_local S (joined joint x xs)))

  atom_local : (group : List ℕ → Read SelKind Plain) → Local S group → Local S (atom_over group)
  unfolding atom_over
  atom_local group law =
      cond_local S (is_at 40) (λ t. group t >>= λ x. mark_at Syntax 41 (skip x.1) >>= λ rest. filtered x.0 rest) (λ t. cond (is_at 91 t) (filtered (name best) t) (run_at Syntax is_name_byte t >>= λ word. filtered (name (pick_of word.0)) word.1)) (is_at_near S 40)
      (then_local S group (λ x r. mark_at Syntax 41 (skip r) >>= λ rest. filtered x rest) law (λ x. skip_local S (λ r. mark_at Syntax 41 r >>= λ rest. filtered x rest) sees.none (mark_local S Syntax 41 (filtered x) (filtered_local x))))
      (cond_local S (is_at 91) (filtered (name best)) (λ t. run_at Syntax is_name_byte t >>= λ word. filtered (name (pick_of word.0)) word.1) (is_at_near S 91) (filtered_local (name best))
      (then_local S (run_at Syntax is_name_byte) (λ w r. filtered (name (pick_of w)) r) (run_local S Syntax is_name_byte) (λ w. filtered_local (name (pick_of w)))))

  spec_local : (operand : List ℕ → Read SelKind Plain) (P : List ℕ → Plain → Type 0) → Spells operand P → Local S operand → Local S (spec_over operand)
  spec_local operand P spells law =
      let plus = joined_spells Plus operand P spells in
      let slash = joined_spells Slash (joined_at Plus operand) (IsJoined Plus P) plus in
      joined_local Comma (joined_at Slash (joined_at Plus operand)) (IsJoined Slash (IsJoined Plus P)) slash
      (joined_local Slash (joined_at Plus operand) (IsJoined Plus P) plus (joined_local Plus operand P spells law))

  atom_at_local : (groups : ℕ) → Local S (atom_at groups)
  unfolding atom_at
  atom_at_local zero = skip_local S (atom_over (λ p. Err (Depth, length p))) sees.none (atom_local (λ p. Err (Depth, length p)) (stop_local S Depth))
  atom_at_local (suc groups) = skip_local S (atom_over (λ p. spec_over (atom_at groups) (drop 1 p))) sees.none
      (atom_local (λ p. spec_over (atom_at groups) (drop 1 p)) (drop_local S 1 (spec_over (atom_at groups)) (spec_local (atom_at groups) (IsAtom groups) (atom_at_spells groups) (atom_at_local groups))))

  end_moves : (c d q : List ℕ) (x : Plain) (k : SelKind) → Twin S c d → end_of (x, q ++ c) ≡ Err (k, length c) → end_of (x, q ++ d) ≡ Err (k, length d)
  end_moves c d q x k w e = elim (chosen (eqb (length (skip (q ++ c))) 0) _ _ _ e) [
    | inl h ↦ absurd cc
    | inr h ↦
        let two = twin_skip S c d sees.none w in
        let pair = err_is {A = Plain} (Syntax, length (skip (q ++ c))) (k, length c) h.1 in
        let len : length (skip (q ++ c)) ≡ length c = ap (λ (z : SelKind × ℕ). z.1) pair in
        let none : skip q ≡ [] = nil_from_length (skip q) (omega (arith, len, ap length (skip_append q c two.0), length-append (skip q) c)) in
        let here : skip (q ++ d) ≡ d = skip_append q d two.1 ∙ ap (λ (l : List ℕ). l ++ d) none in
        let some : eqb (length d) 0 ≡ false = ne_eqb (length d) 0 (λ z. omega (arith, z, ap length w.other)) in
        rw (here, some) (ap (λ (z : SelKind). Err (z, length d)) (ap (λ (z : SelKind × ℕ). z.0) pair))
  ]

  whole_by : (c d : List ℕ) (k : SelKind) (r r' : Read SelKind Plain) → Twin S c d → is_settled k ≡ true → (Within S c r → Moved c d r r') → (r >>= end_of) ≡ Err (k, length c) → (r' >>= end_of) ≡ Err (k, length d)
  whole_by c d k (Ok p) r' w l law e =
      let m = law (end_left p.0 p.1 c k e) in
      let at : end_of (p.0, m.0 ++ c) ≡ Err (k, length c) = subst (λ (z : List ℕ). end_of (p.0, z) ≡ Err (k, length c)) m.1 e in
      ap (λ (z : Read SelKind Plain). z >>= end_of) m.2 ∙ end_moves c d m.0 p.0 k w at
  whole_by c d k (Err f) r' w l law e =
      let pair : f ≡ (k, length c) = err_is {A = Plain} f (k, length c) e in
      let m = law (subst (λ (z : SelKind × ℕ). Within {A = Plain} S c (Err z)) (sym pair) (l, omega arith)) in
      let there : r' ≡ Err (k, length d) = m ∙ ap (λ (z : SelKind × ℕ). Err z) (ap (λ (z : SelKind × ℕ). (z.0, z.1 - length c + length d)) pair ∙ ap (λ (n : ℕ). (k, n)) (cut_len c d)) in
      ap (λ (z : Read SelKind Plain). z >>= end_of) there

  pub whole_moves : (s c d : List ℕ) (k : SelKind) → Twin S c d → is_settled k ≡ true → whole_at (s ++ c) ≡ Err (k, length c) → whole_at (s ++ d) ≡ Err (k, length d)
  unfolding whole_at
  whole_moves s c d k w l e = whole_by c d k (spec_over (atom_at 64) (s ++ c)) (spec_over (atom_at 64) (s ++ d)) w l ((spec_local (atom_at 64) (IsAtom 64) (atom_at_spells 64) (atom_at_local 64)).moves s c d w) e

-- ---- the bytes that settle a fault

abbrev only : ℕ → ℕ → Bool
only a b = b == a

other_byte : (a b : ℕ) → (a == b) ≡ false → (b == a) ≡ false
other_byte a b h = ne_eqb b a (λ e. false_true (sym h ∙ eq-eqb a b (sym e)))

sees_of : (a : ℕ) (w : List ℕ) → (a == 32) ≡ false → Settle (a ∷ w) → Sees (length (a ∷ w)) (only a)
sees_of a w solid enough = record {
  none = other_byte a 32 solid;
  wide = λ b h. subst (λ (c : ℕ). settling_bytes c ≤ length (a ∷ w)) (sym (eqb-true b a h)) enough;
}

twin_of : (a : ℕ) (w rest more : List ℕ) → Twin (settling (length (a ∷ w)) (only a)) (a ∷ (w ++ rest)) (a ∷ (w ++ more))
twin_of a w rest more = record { a = a; w = w; u = rest; v = more; one = refl; other = refl; wide = omega arith; solid = eq-eqb a a refl }

-- a settled fault stays, whatever follows the bytes that settle it
pub fault_stays : (front near rest more : List ℕ) (kind : SelKind) → is_settled kind ≡ true → Settle near
    → whole_at (front ++ (near ++ rest)) ≡ Err (kind, length (near ++ rest)) → whole_at (front ++ (near ++ more)) ≡ Err (kind, length (near ++ more))
fault_stays front [] rest more kind l enough e = absurd enough
fault_stays front (a ∷ w) rest more kind l enough e =
    let solid : (a == 32) ≡ false = solid_byte front a (w ++ rest) kind l e in
    whole_moves (length (a ∷ w)) (only a) (sees_of a w solid enough) front (a ∷ (w ++ rest)) (a ∷ (w ++ more)) kind (twin_of a w rest more) l e
