-- A settled fault stays, whatever stands behind the bytes that settle it: what templates add to the laws of readers.
use Rattle.std.proofs.Common.{◌≡◌, ℕ, suc, ◌+◌, ◌-◌, ◌≤◌, Bool, true, false, ◌||◌, not, cond, List, [], ◌∷◌, ◌++◌, length, take, drop, Ok, Err, refl, sym, ap, subst, ◌∙◌, append_assoc, arith}
use Rattle.std.specs.Prelude.{◌==◌}
use Rattle.std.specs.List.{prefix_len}
use Rattle.std.proofs.lemmas.Bool.{or_parts, not-true}
use Rattle.std.proofs.lemmas.List.{length-append, length-drop, take-append-le, take-append-drop}
use Rattle.std.proofs.lemmas.List.Sums.{prefix_len-le-length}
use Rattle.text_base.specs.Spelling.{is_digit}
use Rattle.read_base.specs.Reads.{is_at, all_at}
use Rattle.read_base.proofs.LocalLemmas.{drop_local, all_local, Near, is_at_near, head_near, run_same, drop_short}
use Rattle.read_base.specs.Laws.{Twin, Shrinks, Within, Moved, Local, head_is}
use Rattle.tpl_lang.specs.declared.tpl_kind.TplKind.{TplKind}
use Rattle.tpl_lang.specs.Bytes.{is_letter, is_word_byte, has_word}
use Rattle.tpl_lang.specs.Places.{is_free, settling}
use Rattle.tpl_lang.specs.Spelled.{Marked}
use Rattle.tpl_lang.proofs.SpellsLemmas.{TakesSo, SpellsSo, marked_some, marked_spells}
use Rattle.tpl_lang.proofs.AgainLemmas.{AgainSo}
use Rattle.tpl_lang.proofs.OpenLemmas.{Reading, parted, takes_some}

abbrev pub Stays : {A : Type 0} → (List ℕ → Reading A) → Type 0
Stays item = Local settling item

abbrev pub Near_here : (List ℕ → Bool) → Type 0
Near_here = Near settling

abbrev pub Twins : List ℕ → List ℕ → Type 0
Twins c d = Twin settling c d

-- ---- the byte of the place

free_parts : (a : ℕ) → is_free a ≡ true → (is_word_byte a ≡ false) × ((a == 45) ≡ false) × ((a == 46) ≡ false)
free_parts a h =
    let all = or_parts (is_word_byte a || a == 45) (a == 46) (not-true (is_word_byte a || a == 45 || a == 46) h) in
    let two = or_parts (is_word_byte a) (a == 45) all.0 in
    (two.0, two.1, all.1)

pub free_word : (c d : List ℕ) (w : Twins c d) → is_word_byte w.a ≡ false
free_word c d w = (free_parts w.a w.solid).0

pub free_minus : (c d : List ℕ) (w : Twins c d) → (w.a == 45) ≡ false
free_minus c d w = (free_parts w.a w.solid).1

pub free_point : (c d : List ℕ) (w : Twins c d) → (w.a == 46) ≡ false
free_point c d w = (free_parts w.a w.solid).2

free_digit : (c d : List ℕ) (w : Twins c d) → is_digit w.a ≡ false
free_digit c d w = (or_parts (is_digit w.a) (is_letter w.a) (or_parts (is_digit w.a || is_letter w.a) (w.a == 95) (free_word c d w)).0).0

pub some_length : (c d : List ℕ) → Twins c d → 1 ≤ length c
some_length c d w = omega (arith, ap length w.one)

-- ---- digits end before the place

stop_step : (p : ℕ → Bool) (v : Bool) (n m : ℕ) → n ≤ m → cond v (1 + n) 0 ≤ suc m
stop_step p true n m h = omega (arith, h)
stop_step p false n m h = omega arith

first_stop : (p : ℕ → Bool) (v : Bool) (n : ℕ) → v ≡ false → cond v (1 + n) 0 ≤ 0
first_stop p true n h = absurd cc
first_stop p false n h = omega arith

pub digits_short : (s c d : List ℕ) → Twins c d → prefix_len is_digit (s ++ c) ≤ length s
digits_short [] c d w = subst (λ (l : List ℕ). prefix_len is_digit l ≤ 0) (sym w.one) (first_stop is_digit (is_digit w.a) (prefix_len is_digit (w.w ++ w.u)) (free_digit c d w))
digits_short (b ∷ s) c d w = stop_step is_digit (is_digit b) (prefix_len is_digit (s ++ c)) (length s) (digits_short s c d w)

pub digits_same : (s c d : List ℕ) → Twins c d → prefix_len is_digit (s ++ d) ≡ prefix_len is_digit (s ++ c)
digits_same s c d w = run_same settling is_digit s c d w (digits_short s c d w)

-- a test of how many digits stand at the front, and one of what stands behind them
pub digits_near : (f : ℕ → Bool) → Near_here (λ t. f (prefix_len is_digit t))
digits_near f s c d w = ap f (sym (digits_same s c d w))

pub behind_near : (test : List ℕ → Bool) → Near_here test → Near_here (λ t. test (drop (prefix_len is_digit t) t))
behind_near test near s c d w =
    let n = prefix_len is_digit (s ++ c) in
    let le = digits_short s c d w in
    ap test (drop_short n s c le) ∙ near (drop n s) c d w ∙ sym (ap test (ap (λ (k : ℕ). drop k (s ++ d)) (digits_same s c d w) ∙ drop_short n s d le))

pub not_near : (test : List ℕ → Bool) → Near_here test → Near_here (λ t. not (test t))
not_near test near s c d w = ap not (near s c d w)

pub or_near : (p q : List ℕ → Bool) → Near_here p → Near_here q → Near_here (λ t. p t || q t)
or_near p q lp lq s c d w = let e = lp s c d w in let h = lq s c d w in rw (e, h) refl

pub word_near : Near_here has_word
word_near = head_near settling false has_word refl (λ b r r'. refl)

-- ---- what is cut

abbrev pair : List ℕ → List ℕ → List ℕ × List ℕ
pair x y = (x, y)

cut_pair : (n : ℕ) (s c d : List ℕ) → n ≤ length s → pair (take n (s ++ d)) (drop n (s ++ d)) ≡ pair (take n (s ++ c)) (drop n s ++ d)
cut_pair n s c d h = rw (take-append-le n s d h, take-append-le n s c h, drop_short n s d h) refl

abbrev pub made_of : {A : Type 0} → (List ℕ → A) → ℕ → List ℕ → Reading A
made_of f n t = Ok (f (take n t), drop n t)

pub cut_moves : {A : Type 0} (f : List ℕ → A) (n m : ℕ) (s c d : List ℕ) → n ≤ length s → m ≡ n → Moved c d (made_of f n (s ++ c)) (made_of f m (s ++ d))
cut_moves f n m s c d le e = (drop n s, drop_short n s c le, ap (λ (k : ℕ). made_of f k (s ++ d)) e ∙ ap (λ (z : List ℕ × List ℕ). Ok (f z.0, z.1)) (cut_pair n s c d le))

pub cut_shrinks : {A : Type 0} (f : List ℕ → A) (n : ℕ) (t : List ℕ) → Shrinks settling t (made_of f n t)
cut_shrinks f n t = (take n t, sym (take-append-drop n t))

-- a run, which may be empty
pub total_local : {A : Type 0} (p : ℕ → Bool) (f : List ℕ → A) → Stays (λ t. made_of f (prefix_len p t) t)
total_local p f = record {
  shrinks = λ t. cut_shrinks f (prefix_len p t) t;
  moves = λ s c d w h.
      let n = prefix_len p (s ++ c) in
      let le : n ≤ length s = omega (arith, h, length-drop n (s ++ c), length-append s c, prefix_len-le-length p (s ++ c)) in
      cut_moves f n (prefix_len p (s ++ d)) s c d le (run_same settling p s c d w le);
}

-- a fault where the text ended is none before the place
pub end_local : {A : Type 0} (k : TplKind) → Stays {A = A} (λ t. Err (k, 0))
end_local k = record { shrinks = λ t l. omega arith; moves = λ s c d w h. absurd (omega (arith, h.1, some_length c d w)) }

-- ---- lists

pub list_local : {A : Type 0} (mark : ℕ) (item : List ℕ → Reading A) (P : List ℕ → List ℕ → A → Type 0) → SpellsSo item P → Stays item → Stays (all_at (is_at mark) (λ t. item (drop 1 t)))
list_local mark item P spells law = all_local settling (is_at mark) (λ t. item (drop 1 t)) refl (takes_some (is_at mark) (λ t. item (drop 1 t)) (Marked mark P) (marked_some mark P) (marked_spells mark item P spells)) (is_at_near settling mark) (drop_local settling 1 item law)

-- ---- readers of small pieces

-- what is spelled before one twin is spelled before the other
abbrev pub Turned : {A : Type 0} → (List ℕ → List ℕ → A → Type 0) → Type 0
Turned {A} P = (w q c d : List ℕ) (x : A) → Twins c d → P w (q ++ c) x → P w (q ++ d) x

-- a settled fault at the place or before it is the same before both
abbrev pub Errs : {A : Type 0} → (List ℕ → Reading A) → Type 0
Errs item = (s c d : List ℕ) (e : TplKind × ℕ) → Twins c d → item (s ++ c) ≡ Err e → settling.is_settled e.0 ≡ true → length c ≤ e.1 → item (s ++ d) ≡ Err (e.0, e.1 - length c + length d)

law_moves : {A : Type 0} (item : List ℕ → Reading A) (P : List ℕ → List ℕ → A → Type 0) → SpellsSo item P → AgainSo item P → Turned P → Errs item → (s c d : List ℕ) → Twins c d → (z : Reading A) → item (s ++ c) ≡ z → Within settling c z → Moved c d z (item (s ++ d))
law_moves {A} item P spells again turned errs s c d w (Ok p) e h =
    let one = spells (s ++ c) p e in
    let m = parted one.0 s c p.1 one.2 h in
    let is : P one.0 (m.0 ++ c) p.0 = subst (λ (l : List ℕ). P one.0 l p.0) m.1 one.1 in
    let read : item (one.0 ++ (m.0 ++ d)) ≡ Ok (p.0, m.0 ++ d) = again one.0 (m.0 ++ d) p.0 (turned one.0 m.0 c d p.0 w is) in
    let whole : s ++ d ≡ one.0 ++ (m.0 ++ d) = ap (λ (l : List ℕ). l ++ d) m.2 ∙ append_assoc one.0 m.0 d in
    (m.0, m.1, ap item whole ∙ read)
law_moves item P spells again turned errs s c d w (Err e) k h = errs s c d e w k h.0 h.1

law_shrinks : {A : Type 0} (P : List ℕ → List ℕ → A → Type 0) (t : List ℕ) (z : Reading A) → ((p : A × List ℕ) → z ≡ Ok p → TakesSo P t p) → ((e : TplKind × ℕ) → z ≡ Err e → e.1 ≤ length t) → Shrinks settling t z
law_shrinks P t (Ok p) spells less = let one = spells p refl in (one.0, one.2)
law_shrinks P t (Err e) spells less = λ l. less e refl

pub law_local : {A : Type 0} (item : List ℕ → Reading A) (P : List ℕ → List ℕ → A → Type 0) → SpellsSo item P → AgainSo item P → Turned P → Errs item → ((t : List ℕ) (e : TplKind × ℕ) → item t ≡ Err e → e.1 ≤ length t) → Stays item
law_local item P spells again turned errs less = record {
  shrinks = λ t. law_shrinks P t (item t) (λ p e. spells t p e) (λ e k. less t e k);
  moves = λ s c d w h. law_moves item P spells again turned errs s c d w (item (s ++ c)) refl h;
}

-- a run before one twin is one before the other
pub run_turned : (p : ℕ → Bool) (q c d : List ℕ) → Twins c d → head_is (λ b. not (p b)) (q ++ c) ≡ true → head_is (λ b. not (p b)) (q ++ d) ≡ true
run_turned p [] c d w h = subst (λ (l : List ℕ). head_is (λ b. not (p b)) l ≡ true) (sym w.other) (subst (λ (l : List ℕ). head_is (λ b. not (p b)) l ≡ true) w.one h)
run_turned p (b ∷ q) c d w h = h
