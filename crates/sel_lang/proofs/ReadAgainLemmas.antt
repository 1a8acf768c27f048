-- What is spelled as a selector is read so.
use Rattle.std.proofs.Common.{◌≡◌, ℕ, zero, suc, ◌<◌, Bool, true, false, not, ◌||◌, List, [], ◌∷◌, ◌++◌, length, drop, Ok, Err, refl, sym, ap, subst, ◌∙◌, append_assoc, arith, inl, inr}
use Rattle.std.specs.Prelude.{◌==◌}
use Rattle.std.proofs.lemmas.Bool.{eq-eqb}
use Rattle.std.proofs.lemmas.List.{append-nil, length-append}
use Rattle.read_base.specs.Reads.{Read, skip, is_at, mark_at, run_at, all_at, placed}
use Rattle.read_base.specs.Spelled.{IsGap, Spaced, Behind, IsMore}
use Rattle.read_base.specs.Laws.{Again}
use Rattle.read_base.proofs.StepLemmas.{run_again}
use Rattle.read_base.proofs.AgainLemmas.{gap_skipped, to_mark, Items, more_free, all_again}
use Rattle.sel_lang.specs.Plain.{Plain, PlainFilter, name, narrowed}
use Rattle.sel_lang.specs.Marks.{is_name_byte}
use Rattle.sel_lang.specs.Names.{pick_of, best}
use Rattle.sel_lang.specs.Filters.{filter_at}
use Rattle.sel_lang.specs.Reading.{is_next, behind, filtered, mark_of, joined, joined_at, atom_over, spec_over, atom_at, whole_at, fault_of, sel_of}
use Rattle.sel_lang.specs.Spelled.{IsFilter, IsFiltered, IsNamed, IsBest, IsGrouped, IsAtomOver, IsJoined, IsSpecOver, IsAtom, IsSpelled}
use Rattle.sel_lang.specs.declared.sel_kind.SelKind.{SelKind}
use Rattle.sel_lang.specs.declared.sel_kind.SelKind.TheVariants.{Syntax, Depth}
use Rattle.sel_lang.specs.declared.joint.Joint.{Joint}
use Rattle.sel_lang.specs.declared.joint.Joint.TheVariants.{Comma, Slash, Plus}
use Rattle.sel_lang.proofs.FilterAgainLemmas.{Ends, gap_ends, filter_again, run_front, solid_run}

-- no name goes on, and the next token is none that the test passes
pub record Free (p : ℕ → Bool) (r : List ℕ) : Type 0 where
  pub no_name : Ends is_name_byte r
  pub no_token : Ends p (skip r)

-- what a mark may be: no part of a name, no space, none that the test passes
pub record IsMark (p : ℕ → Bool) (mark : ℕ) : Type 0 where
  pub no_name : is_name_byte mark ≡ false
  pub no_space : (mark == 32) ≡ false
  pub other : p mark ≡ false

mark_free : (p : ℕ → Bool) (gap t : List ℕ) (mark : ℕ) → IsGap gap → IsMark p mark → Free p (gap ++ mark ∷ t)
mark_free p gap t mark h m = record {
  no_name = gap_ends is_name_byte gap (mark ∷ t) h refl (ap not m.no_name);
  no_token = subst (Ends p) (sym (to_mark gap t mark h m.no_space)) (ap not m.other);
}

item_shift : (gap one r s : List ℕ) (mark : ℕ) → s ≡ gap ++ mark ∷ one → s ++ r ≡ gap ++ mark ∷ (one ++ r)
item_shift gap one r s mark e = ap (λ (l : List ℕ). l ++ r) e ∙ append_assoc gap (mark ∷ one) r

item_whole : {A : Type 0} (mark : ℕ) (P : List ℕ → A → Type 0) (s : List ℕ) (x : A) (r : List ℕ) (h : Spaced (Behind mark P) s x) → s ++ r ≡ h.gap ++ mark ∷ (h.is.0 ++ r)
item_whole mark P s x r h = item_shift h.gap h.is.0 r s mark (h.parts ∙ ap (λ (l : List ℕ). h.gap ++ l) h.is.2)

item_next : {A : Type 0} (mark : ℕ) (P : List ℕ → A → Type 0) (s : List ℕ) (x : A) (r : List ℕ) (h : Spaced (Behind mark P) s x) → (mark == 32) ≡ false → skip (s ++ r) ≡ mark ∷ (h.is.0 ++ r)
item_next mark P s x r h k = ap skip (item_whole mark P s x r h) ∙ to_mark h.gap (h.is.0 ++ r) mark h.is_gap k

some_length : (gap one s : List ℕ) (mark : ℕ) → s ≡ gap ++ mark ∷ one → 0 < length s
some_length gap one s mark e = omega (arith, ap length e, length-append gap (mark ∷ one))

-- items behind a mark
pub items : {A : Type 0} (mark : ℕ) (P : List ℕ → A → Type 0) (p : ℕ → Bool) → IsMark p mark → Items (is_next mark) (Spaced (Behind mark P)) (Free p)
items mark P p m = record {
  starts = λ s x r h free. ap (is_at mark) (item_next mark P s x r h m.no_space) ∙ eq-eqb mark mark refl;
  some = λ s x h. some_length h.gap h.is.0 s mark (h.parts ∙ ap (λ (l : List ℕ). h.gap ++ l) h.is.2);
  free = λ s x r h free. subst (Free p) (sym (item_whole mark P s x r h)) (mark_free p h.gap (h.is.0 ++ r) mark h.is_gap m);
}

pub item_again : {A : Type 0} (mark : ℕ) (item : List ℕ → Read SelKind A) (P : List ℕ → A → Type 0) (F : List ℕ → Type 0) → (mark == 32) ≡ false → Again item P F → Again (behind item) (Spaced (Behind mark P)) F
item_again mark item P F k again s x r h free = ap (λ (l : List ℕ). item (drop 1 l)) (item_next mark P s x r h k) ∙ again h.is.0 x r h.is.1 free

-- ---- what may not follow an atom, and each kind of joining

abbrev pub no_token_at : ℕ → Bool
no_token_at b = false

abbrev pub ends_atom : ℕ → Bool
ends_atom b = b == 91

abbrev pub ends_plus : ℕ → Bool
ends_plus b = ends_atom b || b == 43

abbrev pub ends_slash : ℕ → Bool
ends_slash b = ends_plus b || b == 47

abbrev pub ends_comma : ℕ → Bool
ends_comma b = ends_slash b || b == 44

either_not : (a b : Bool) → not (a || b) ≡ true → (not a ≡ true) × (b ≡ false)
either_not true b h = absurd cc
either_not false true h = absurd cc
either_not false false h = (refl, refl)

head_less : (p : ℕ → Bool) (m : ℕ) (t : List ℕ) → Ends (λ b. p b || b == m) t → Ends p t × (is_at m t ≡ false)
head_less p m [] h = (refl, refl)
head_less p m (b ∷ t) h = either_not (p b) (b == m) h

not_is : (v : Bool) → not v ≡ true → v ≡ false
not_is true h = absurd cc
not_is false h = refl

at_head : (m : ℕ) (t : List ℕ) → Ends (λ b. b == m) t → is_at m t ≡ false
at_head m [] h = refl
at_head m (b ∷ t) h = not_is (b == m) h

never : (t : List ℕ) → Ends no_token_at t
never [] = refl
never (b ∷ t) = refl

free_91 : (r : List ℕ) → Free ends_atom r → (Free no_token_at r) × (is_next 91 r ≡ false)
free_91 r f = (record { no_name = f.no_name; no_token = never (skip r) }, at_head 91 (skip r) f.no_token)

filters_mark : IsMark no_token_at 91
filters_mark = record { no_name = refl; no_space = refl; other = refl }

filtered_steps : (y : Plain) (t r : List ℕ) (fs : List PlainFilter) → all_at (is_next 91) (behind filter_at) t ≡ Ok (fs, r) → filtered y t ≡ Ok (narrowed y fs, r)
unfolding filtered
filtered_steps y t r fs e = rw e refl

filters_again : (s : List ℕ) (fs : List PlainFilter) (r : List ℕ) → IsMore (Spaced (Behind 91 IsFilter)) s fs → Free ends_atom r → all_at (is_next 91) (behind filter_at) (s ++ r) ≡ Ok (fs, r)
filters_again s fs r h free =
    let f = free_91 r free in
    all_again (is_next 91) (behind filter_at) (Spaced (Behind 91 IsFilter)) (Free no_token_at) (items 91 IsFilter no_token_at filters_mark)
    (item_again 91 filter_at IsFilter (Free no_token_at) refl (λ s x r h k. filter_again s x r h tt)) s fs r h f.0 f.1

pub filtered_again : (y : Plain) → Again (filtered y) (IsFiltered y) (Free ends_atom)
filtered_again y s x r h free = filtered_steps y (s ++ r) r h.0 (filters_again s h.0 r h.1 free) ∙ ap (λ (z : Plain). Ok (z, r)) (sym h.2)

joined_steps : (joint : Joint) (operand : List ℕ → Read SelKind Plain) (t u r : List ℕ) (y : Plain) (ys : List Plain) → operand t ≡ Ok (y, u) → all_at (is_next (mark_of joint)) (behind operand) u ≡ Ok (ys, r) → joined_at joint operand t ≡ Ok (joined joint y ys, r)
unfolding joined_at
joined_steps joint operand t u r y ys e1 e2 = rw (e1, e2) refl

pub joined_again : (joint : Joint) (operand : List ℕ → Read SelKind Plain) (P : List ℕ → Plain → Type 0) (p : ℕ → Bool) → IsMark p (mark_of joint) → Again operand P (Free p) → Again (joined_at joint operand) (IsJoined joint P) (Free (λ b. p b || b == mark_of joint))
joined_again joint operand P p m again s x r h free =
    let less = head_less p (mark_of joint) (skip r) free.no_token in
    let f : Free p r = record { no_name = free.no_name; no_token = less.0 } in
    let its = items (mark_of joint) P p m in
    let e1 = again h.0 h.2 (h.1 ++ r) h.4 (more_free (is_next (mark_of joint)) (Spaced (Behind (mark_of joint) P)) (Free p) its h.1 h.3 r h.5 f) in
    let e2 = all_again (is_next (mark_of joint)) (behind operand) (Spaced (Behind (mark_of joint) P)) (Free p) its (item_again (mark_of joint) operand P (Free p) m.no_space again) h.1 h.3 r h.5 f less.1 in
    let whole : s ++ r ≡ h.0 ++ (h.1 ++ r) = ap (λ (l : List ℕ). l ++ r) h.6 ∙ append_assoc h.0 h.1 r in
    ap (joined_at joint operand) whole ∙ joined_steps joint operand (h.0 ++ (h.1 ++ r)) (h.1 ++ r) r h.2 h.3 e1 e2 ∙ ap (λ (z : Plain). Ok (z, r)) (sym h.7)

-- ---- atoms

abbrev pub AgainGroup : (List ℕ → Read SelKind Plain) → (List ℕ → Plain → Type 0) → Type 0
AgainGroup group Spec = (s : List ℕ) (x : Plain) (r : List ℕ) → Spec s x → Free ends_comma r → group (40 ∷ (s ++ r)) ≡ Ok (x, r)

group_steps : (group : List ℕ → Read SelKind Plain) (t u w r : List ℕ) (y x : Plain) → is_at 40 t ≡ true → group t ≡ Ok (y, u) → mark_at Syntax 41 (skip u) ≡ Ok w → filtered y w ≡ Ok (x, r) → atom_over group t ≡ Ok (x, r)
unfolding atom_over
group_steps group t u w r y x h e1 e2 e3 = rw (h, e1, e2, e3) refl

best_steps : (group : List ℕ → Read SelKind Plain) (t r : List ℕ) (x : Plain) → is_at 40 t ≡ false → is_at 91 t ≡ true → filtered (name best) t ≡ Ok (x, r) → atom_over group t ≡ Ok (x, r)
unfolding atom_over
best_steps group t r x h k e = rw (h, k, e) refl

name_steps : (group : List ℕ → Read SelKind Plain) (t w u r : List ℕ) (x : Plain) → is_at 40 t ≡ false → is_at 91 t ≡ false → run_at Syntax is_name_byte t ≡ Ok (w, u) → filtered (name (pick_of w)) u ≡ Ok (x, r) → atom_over group t ≡ Ok (x, r)
unfolding atom_over
name_steps group t w u r x h k e1 e2 = rw (h, k, e1, e2) refl

named_again : (group : List ℕ → Read SelKind Plain) (s : List ℕ) (x : Plain) (r : List ℕ) → IsNamed s x → Free ends_atom r → atom_over group (skip (s ++ r)) ≡ Ok (x, r)
named_again group s x r h free =
    let w = h.0 in
    let u = h.1 ++ r in
    let run = h.3 in
    let to : skip (s ++ r) ≡ w ++ u = ap (λ (l : List ℕ). skip (l ++ r)) h.5 ∙ ap skip (append_assoc w h.1 r) ∙ solid_run is_name_byte w u refl run.1 run.2 in
    let f = free_91 r free in
    let follows = more_free (is_next 91) (Spaced (Behind 91 IsFilter)) (Free no_token_at) (items 91 IsFilter no_token_at filters_mark) h.1 h.4.0 r h.4.1 f.0 in
    let rest : filtered (name (pick_of w)) u ≡ Ok (x, r) = ap (λ (l : List ℕ). filtered (name (pick_of l)) u) run.0 ∙ filtered_again (name (pick_of h.2)) h.1 x r h.4 free in
    ap (atom_over group) to ∙ name_steps group (w ++ u) w u r x (run_front is_name_byte 40 w u refl run.1 run.2) (run_front is_name_byte 91 w u refl run.1 run.2) (run_again Syntax is_name_byte w u run.1 run.2 follows.no_name) rest

best_again : (group : List ℕ → Read SelKind Plain) (s : List ℕ) (x : Plain) (r : List ℕ) → IsBest s x → Free ends_atom r → atom_over group (skip (s ++ r)) ≡ Ok (x, r)
best_again group s x r h free =
    let m = h.2 in
    let one = m.2 in
    let bare = 91 ∷ (one.is.0 ++ m.1) in
    let first : s ≡ one.gap ++ bare = m.4 ∙ ap (λ (l : List ℕ). l ++ m.1) (one.parts ∙ ap (λ (l : List ℕ). one.gap ++ l) one.is.2) ∙ append_assoc one.gap (91 ∷ one.is.0) m.1 in
    let to : skip (s ++ r) ≡ bare ++ r = ap (λ (l : List ℕ). skip (l ++ r)) first ∙ ap skip (append_assoc one.gap bare r) ∙ to_mark one.gap ((one.is.0 ++ m.1) ++ r) 91 one.is_gap refl in
    let head : Spaced (Behind 91 IsFilter) (91 ∷ one.is.0) h.0 = record { gap = []; rest = 91 ∷ one.is.0; is_gap = tt; is = (one.is.0, one.is.1, refl); parts = refl } in
    let spelled : IsMore (Spaced (Behind 91 IsFilter)) bare (h.0 ∷ h.1) = (91 ∷ one.is.0, m.1, head, m.3, refl) in
    ap (atom_over group) to ∙ best_steps group (bare ++ r) r x refl refl (filtered_again (name best) bare x r (h.0 ∷ h.1, spelled, h.3) free)

group_shift : (a g f r : List ℕ) → (40 ∷ (a ++ (g ++ 41 ∷ f))) ++ r ≡ 40 ∷ (a ++ (g ++ 41 ∷ (f ++ r)))
group_shift a g f r = simp append_assoc refl

grouped_again : (group : List ℕ → Read SelKind Plain) (Spec : List ℕ → Plain → Type 0) → AgainGroup group Spec → (s : List ℕ) (x : Plain) (r : List ℕ) → IsGrouped Spec s x → Free ends_atom r → atom_over group (skip (s ++ r)) ≡ Ok (x, r)
grouped_again group Spec again s x r h free =
    let w = h.2 ++ r in
    let u = h.1 ++ 41 ∷ w in
    let t = 40 ∷ (h.0 ++ u) in
    let to : skip (s ++ r) ≡ t = ap (λ (l : List ℕ). skip (l ++ r)) h.7 ∙ group_shift h.0 h.1 h.2 r in
    let e1 = again h.0 h.3 u h.4 (mark_free ends_comma h.1 w 41 h.5 (record { no_name = refl; no_space = refl; other = refl })) in
    let e2 : mark_at Syntax 41 (skip u) ≡ Ok w = ap (mark_at Syntax 41) (to_mark h.1 w 41 h.5 refl) in
    ap (atom_over group) to ∙ group_steps group t u w r h.3 x refl e1 e2 (filtered_again h.3 h.2 x r h.6 free)

atom_again : (group : List ℕ → Read SelKind Plain) (Spec : List ℕ → Plain → Type 0) → AgainGroup group Spec → Again (λ t. atom_over group (skip t)) (Spaced (IsAtomOver Spec)) (Free ends_atom)
atom_again group Spec again s x r h free =
    ap (λ (l : List ℕ). atom_over group (skip (l ++ r))) h.parts ∙ ap (λ (l : List ℕ). atom_over group (skip l)) (append_assoc h.gap h.rest r) ∙ ap (atom_over group) (gap_skipped h.gap (h.rest ++ r) h.is_gap) ∙
    elim h.is [
      | inl k ↦ named_again group h.rest x r k free
      | inr k ↦ elim k [
        | inl b ↦ best_again group h.rest x r b free
        | inr g ↦ grouped_again group Spec again h.rest x r g free
      ]
    ]

pub spec_again : (operand : List ℕ → Read SelKind Plain) (P : List ℕ → Plain → Type 0) → Again operand P (Free ends_atom) → Again (spec_over operand) (IsSpecOver P) (Free ends_comma)
spec_again operand P again =
    joined_again Comma (joined_at Slash (joined_at Plus operand)) (IsJoined Slash (IsJoined Plus P)) ends_slash (record { no_name = refl; no_space = refl; other = refl })
    (joined_again Slash (joined_at Plus operand) (IsJoined Plus P) ends_plus (record { no_name = refl; no_space = refl; other = refl })
    (joined_again Plus operand P ends_atom (record { no_name = refl; no_space = refl; other = refl }) again))

pub atom_at_again : (groups : ℕ) → Again (atom_at groups) (IsAtom groups) (Free ends_atom)
unfolding atom_at
atom_at_again zero = atom_again (λ p. Err (Depth, length p)) (λ s x. ⊥) (λ s x r h free. absurd h)
atom_at_again (suc groups) = atom_again (λ p. spec_over (atom_at groups) (drop 1 p)) (IsSpecOver (IsAtom groups)) (λ s x r h free. spec_again (atom_at groups) (IsAtom groups) (atom_at_again groups) s x r h free)

only_gap : (gap : List ℕ) → IsGap gap → skip gap ≡ []
only_gap gap h = ap skip (sym (append-nil gap)) ∙ gap_skipped gap [] h

whole_steps : (t r : List ℕ) (x : Plain) → spec_over (atom_at 64) t ≡ Ok (x, r) → skip r ≡ [] → whole_at t ≡ Ok x
unfolding whole_at
whole_steps t r x e h = rw (e, h) refl

-- what is spelled so is read
pub sel_again : (t : List ℕ) (x : Plain) → IsSpelled t x → sel_of t ≡ Ok x
sel_again t x h =
    let none = only_gap h.1 h.3 in
    let head : Ends is_name_byte h.1 = subst (Ends is_name_byte) (append-nil h.1) (gap_ends is_name_byte h.1 [] h.3 refl refl) in
    let free : Free ends_comma h.1 = record { no_name = head; no_token = subst (Ends ends_comma) (sym none) refl } in
    let e = spec_again (atom_at 64) (IsAtom 64) (atom_at_again 64) h.0 x h.1 h.2 free in
    ap (placed fault_of t) (ap whole_at h.4 ∙ whole_steps (h.0 ++ h.1) h.1 x e none)
