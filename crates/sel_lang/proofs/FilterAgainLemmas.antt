-- What is spelled as a filter is read so.
use Rattle.std.proofs.Common.{◌≡◌, ℕ, ◌<◌, Bool, true, false, not, cond, List, [], ◌∷◌, ◌++◌, length, drop, Option, Some, None, Ok, refl, sym, ap, subst, ◌∙◌, append_assoc, arith, inl, inr, ◌⊎◌}
use Rattle.std.specs.Prelude.{◌==◌}
use Rattle.std.proofs.lemmas.Bool.{eqb-true, eq-eqb}
use Rattle.std.proofs.lemmas.List.{append-nil}
use Rattle.text_base.specs.Number.{Number}
use Rattle.text_base.specs.Size.{size_of}
use Rattle.text_base.specs.Spelling.{digits_length}
use Rattle.text_base.specs.declared.fields.NumField.{NumField}
use Rattle.text_base.specs.declared.fields.TextField.{TextField}
use Rattle.read_base.specs.Reads.{Read, skip, is_at, run_at}
use Rattle.read_base.specs.Spelled.{AreAll, IsGap, Spaced, Then}
use Rattle.read_base.specs.Laws.{Again, head_is}
use Rattle.read_base.proofs.StepLemmas.{run_again}
use Rattle.read_base.proofs.AgainLemmas.{gap_skipped, to_mark, then_again}
use Rattle.sel_lang.specs.Plain.{PlainFilter}
use Rattle.sel_lang.specs.Marks.{is_field_byte, is_value_byte}
use Rattle.sel_lang.specs.Filters.{field_named, found, field_at, num_op_at, op_mark, plain_op, text_op_at, has_mark, behind_mark, marked_at, num_value_at, unquoted, closed_quote, text_value_at, can_have, tested_at, ended, num_filter_at, text_filter_at, tail_at, filter_at}
use Rattle.sel_lang.specs.Spelled.{IsField, num_op_text, text_op_text, IsMarked, IsNumValue, IsRun, IsBody, IsQuoted, IsTextValue, IsEnd, IsNumFilter, IsTextFilter, IsTail, IsFilter}
use Rattle.sel_lang.specs.declared.filter.NumOp.{NumOp}
use Rattle.sel_lang.specs.declared.filter.NumOp.TheVariants as nums
use Rattle.sel_lang.specs.declared.filter.TextOp.{TextOp}
use Rattle.sel_lang.specs.declared.filter.TextOp.TheVariants as texts
use Rattle.sel_lang.specs.declared.field_name.FieldName.{FieldName}
use Rattle.sel_lang.specs.declared.field_name.FieldName.TheVariants as names
use Rattle.sel_lang.specs.declared.sel_kind.SelKind.{SelKind}
use Rattle.sel_lang.specs.declared.sel_kind.SelKind.TheVariants.{Syntax, Field, Value}
use Rattle.sel_lang.proofs.FilterParts.{num_made, num_value, num_rest, IsNumRest, text_made, text_value, text_rest, IsTextRest}

-- before any rest
abbrev pub Any : List ℕ → Type 0
Any r = Unit {0}

-- no byte that passes the test stands first
abbrev pub Ends : (ℕ → Bool) → List ℕ → Type 0
Ends p r = head_is (λ b. not (p b)) r ≡ true

false_true : false ≡ true → ⊥
false_true e = absurd cc

-- a gap before what does not begin so
pub gap_ends : (p : ℕ → Bool) (gap t : List ℕ) → IsGap gap → p 32 ≡ false → Ends p t → Ends p (gap ++ t)
gap_ends p [] t h space k = k
gap_ends p (b ∷ gap) t h space k = let same : b ≡ 32 = eqb-true b 32 h.0 in ap (λ (c : ℕ). not (p c)) same ∙ ap not space

pub gap_ends_in : (p : ℕ → Bool) (s gap rest r : List ℕ) → IsGap gap → s ≡ gap ++ rest → p 32 ≡ false → Ends p (rest ++ r) → Ends p (s ++ r)
gap_ends_in p s gap rest r h parts space k = subst (λ (l : List ℕ). Ends p (l ++ r)) (sym parts) (subst (Ends p) (sym (append_assoc gap rest r)) (gap_ends p gap (rest ++ r) h space k))

-- spaces before what is read
pub spaced_again : {A : Type 0} (item : List ℕ → Read SelKind A) (P : List ℕ → A → Type 0) (Free : List ℕ → Type 0) → ((s : List ℕ) (x : A) (r : List ℕ) → P s x → skip (s ++ r) ≡ s ++ r) → Again item P Free → Again (λ t. item (skip t)) (Spaced P) Free
spaced_again item P Free solid again s x r h free =
    ap (λ (l : List ℕ). item (skip (l ++ r))) h.parts ∙ ap (λ (l : List ℕ). item (skip l)) (append_assoc h.gap h.rest r) ∙ ap item (gap_skipped h.gap (h.rest ++ r) h.is_gap ∙ solid h.rest x r h.is) ∙ again h.rest x r h.is free

solid_by : (p : ℕ → Bool) (v : Bool) (b : ℕ) (t : List ℕ) → (b == 32) ≡ v → p 32 ≡ false → p b ≡ true → cond v (skip t) (b ∷ t) ≡ b ∷ t
solid_by p true b t e space h = absurd (false_true (sym space ∙ ap p (sym (eqb-true b 32 e)) ∙ h))
solid_by p false b t e space h = refl

-- a run does not begin with a space
pub solid_run : (p : ℕ → Bool) (w r : List ℕ) → p 32 ≡ false → 0 < length w → AreAll p w → skip (w ++ r) ≡ w ++ r
solid_run p [] r space lt h = absurd (omega (arith, lt))
solid_run p (b ∷ w) r space lt h = solid_by p (b == 32) b (w ++ r) refl space h.0

-- ---- fields

found_again : {A : Type 0} (kind : SelKind) (t rest : List ℕ) (o : Option A) (x : A) → o ≡ Some x → found kind t o rest ≡ Ok (x, rest)
found_again kind t rest o x h = ap (λ z. found kind t z rest) h

field_steps : (t w r : List ℕ) (field : FieldName) → run_at Syntax is_field_byte t ≡ Ok (w, r) → field_named w ≡ Some field → field_at t ≡ Ok (field, r)
unfolding field_at
field_steps t w r field e1 e2 = rw e1 (found_again Field t r (field_named w) field e2)

field_again : Again (λ t. field_at (skip t)) (Spaced IsField) (Ends is_field_byte)
field_again = spaced_again field_at IsField (Ends is_field_byte) (λ s x r h. solid_run is_field_byte s r refl h.0 h.1)
    (λ s x r h free. field_steps (s ++ r) s r x (run_again Syntax is_field_byte s r h.0 h.1 free) h.2)

-- ---- operators

num_op_solid : (op : NumOp) (r : List ℕ) → skip (num_op_text op ++ r) ≡ num_op_text op ++ r
num_op_solid nums.Lt r = refl
num_op_solid nums.Le r = refl
num_op_solid nums.Gt r = refl
num_op_solid nums.Ge r = refl
num_op_solid nums.Eq r = refl
num_op_solid nums.Ne r = refl

no_equal : (r : List ℕ) → Ends (λ b. b == 61) r → is_at 61 r ≡ false
no_equal [] h = refl
no_equal (b ∷ r) h = by (b == 61) h
  where
    by : (v : Bool) → not v ≡ true → v ≡ false
    by true h = absurd cc
    by false h = refl

num_op_is : (op : NumOp) (r : List ℕ) → is_at 61 r ≡ false → num_op_at (num_op_text op ++ r) ≡ Ok (op, r)
unfolding num_op_at
num_op_is nums.Lt r h = rw h refl
num_op_is nums.Le r h = refl
num_op_is nums.Gt r h = rw h refl
num_op_is nums.Ge r h = refl
num_op_is nums.Eq r h = refl
num_op_is nums.Ne r h = refl

num_op_again : Again (λ t. num_op_at (skip t)) (Spaced (λ s op. s ≡ num_op_text op)) (Ends (λ b. b == 61))
num_op_again = spaced_again num_op_at (λ s op. s ≡ num_op_text op) (Ends (λ b. b == 61))
    (λ s op r h. subst (λ (l : List ℕ). skip (l ++ r) ≡ l ++ r) (sym h) (num_op_solid op r))
    (λ s op r h free. ap (λ (l : List ℕ). num_op_at (l ++ r)) h ∙ num_op_is op r (no_equal r free))

text_op_solid : (op : TextOp) (negated : Bool) (r : List ℕ) → skip (text_op_text (op, negated) ++ r) ≡ text_op_text (op, negated) ++ r
text_op_solid texts.Eq true r = refl
text_op_solid texts.Prefix true r = refl
text_op_solid texts.Suffix true r = refl
text_op_solid texts.Contains true r = refl
text_op_solid texts.Matches true r = refl
text_op_solid texts.Eq false r = refl
text_op_solid texts.Prefix false r = refl
text_op_solid texts.Suffix false r = refl
text_op_solid texts.Contains false r = refl
text_op_solid texts.Matches false r = refl

text_op_is : (op : TextOp) (negated : Bool) (r : List ℕ) → text_op_at (text_op_text (op, negated) ++ r) ≡ Ok ((op, negated), r)
unfolding text_op_at plain_op op_mark
text_op_is texts.Eq true r = refl
text_op_is texts.Prefix true r = refl
text_op_is texts.Suffix true r = refl
text_op_is texts.Contains true r = refl
text_op_is texts.Matches true r = refl
text_op_is texts.Eq false r = refl
text_op_is texts.Prefix false r = refl
text_op_is texts.Suffix false r = refl
text_op_is texts.Contains false r = refl
text_op_is texts.Matches false r = refl

text_op_again : Again (λ t. text_op_at (skip t)) (Spaced (λ s op. s ≡ text_op_text op)) Any
text_op_again = spaced_again text_op_at (λ s op. s ≡ text_op_text op) Any
    (λ s op r h. subst (λ (l : List ℕ). skip (l ++ r) ≡ l ++ r) (sym h) (text_op_solid op.0 op.1 r))
    (λ s op r h free. ap (λ (l : List ℕ). text_op_at (l ++ r)) h ∙ text_op_is op.0 op.1 r)

-- ---- `?`

mark_by : (v : Bool) (b : ℕ) (s r : List ℕ) → (b == 32) ≡ v → (0 < length (skip s) → has_mark s ≡ false → has_mark (s ++ r) ≡ false)
    → 0 < length (cond v (skip s) (b ∷ s)) → is_at 63 (cond v (skip s) (b ∷ s)) ≡ false → is_at 63 (cond v (skip (s ++ r)) (b ∷ (s ++ r))) ≡ false
mark_by true b s r e so lt h = so lt h
mark_by false b s r e so lt h = h

no_mark : (s r : List ℕ) → 0 < length (skip s) → has_mark s ≡ false → has_mark (s ++ r) ≡ false
no_mark [] r lt h = absurd (omega (arith, lt))
no_mark (b ∷ s) r lt h = mark_by (b == 32) b s r refl (no_mark s r) lt h

marked_steps : {A : Type 0} (value : List ℕ → Read SelKind A) (v : Bool) (t u r : List ℕ) (x : A) → has_mark t ≡ v → cond v (drop 1 (skip t)) t ≡ u → value u ≡ Ok (x, r) → marked_at value t ≡ Ok ((v, x), r)
unfolding marked_at
marked_steps value v t u r x h k e =
    let to : behind_mark t ≡ u = ap (λ (w : Bool). cond w (drop 1 (skip t)) t) h ∙ k in
    rw (to, e) (ap (λ (w : Bool). Ok ((w, x), r)) h)

pub marked_again : {A : Type 0} (value : List ℕ → Read SelKind A) (P : List ℕ → A → Type 0) (Free : List ℕ → Type 0) → ((s : List ℕ) (x : A) → P s x → 0 < length (skip s)) → Again value P Free → Again (marked_at value) (IsMarked P) Free
marked_again value P Free some again s (true, x) r h free =
    let whole : s ++ r ≡ h.0 ++ 63 ∷ (h.1 ++ r) = ap (λ (l : List ℕ). l ++ r) h.4 ∙ append_assoc h.0 (63 ∷ h.1) r in
    let to : skip (s ++ r) ≡ 63 ∷ (h.1 ++ r) = ap skip whole ∙ to_mark h.0 (h.1 ++ r) 63 h.2 refl in
    marked_steps value true (s ++ r) (h.1 ++ r) r x (ap (is_at 63) to) (ap (drop 1) to) (again h.1 x r h.3 free)
marked_again value P Free some again s (false, x) r h free =
    marked_steps value false (s ++ r) (s ++ r) r x (no_mark s r (some s x h.0) h.1) refl (again s x r h.0 free)

-- ---- values

num_value_steps : (t w r : List ℕ) (n : Number) → run_at Syntax is_value_byte t ≡ Ok (w, r) → size_of 1000 w ≡ Some n → num_value_at t ≡ Ok (n, r)
unfolding num_value_at
num_value_steps t w r n e1 e2 = rw e1 (found_again Value t r (size_of 1000 w) n e2)

num_value_again : Again num_value (Spaced IsNumValue) (Ends is_value_byte)
num_value_again = spaced_again num_value_at IsNumValue (Ends is_value_byte) (λ s x r h. solid_run is_value_byte s r refl h.0 h.1)
    (λ s x r h free. num_value_steps (s ++ r) s r x (run_again Syntax is_value_byte s r h.0 h.1 free) h.2)

body_steps : (quote b : ℕ) (t : List ℕ) (x : List ℕ × List ℕ) → (b == quote) ≡ false → (b == 92) ≡ false → unquoted quote false t ≡ Some x → unquoted quote false (b ∷ t) ≡ Some (b ∷ x.0, x.1)
unfolding unquoted
body_steps quote b t x h k e = rw (h, k, e) refl

escape_steps : (quote b : ℕ) (t : List ℕ) (x : List ℕ × List ℕ) → (92 == quote) ≡ false → unquoted quote false t ≡ Some x → unquoted quote false (92 ∷ b ∷ t) ≡ Some (b ∷ x.0, x.1)
unfolding unquoted
escape_steps quote b t x h e = rw (h, e) refl

close_steps : (quote : ℕ) (t : List ℕ) → unquoted quote false (quote ∷ t) ≡ Some ([], t)
unfolding unquoted
close_steps quote t = rw (eq-eqb quote quote refl) refl

body_again : (quote : ℕ) (s value r : List ℕ) → (92 == quote) ≡ false → IsBody quote s value → unquoted quote false (s ++ quote ∷ r) ≡ Some (value, r)
body_again quote s [] r ne h = ap (λ (l : List ℕ). unquoted quote false (l ++ quote ∷ r)) h ∙ close_steps quote r
body_again quote s (b ∷ value) r ne h =
    let rest = body_again quote h.0 value r ne h.1 in
    elim h.2 [
      | inl k ↦ ap (λ (l : List ℕ). unquoted quote false (l ++ quote ∷ r)) k.0 ∙ body_steps quote b (h.0 ++ quote ∷ r) (value, r) k.1 k.2 rest
      | inr k ↦ ap (λ (l : List ℕ). unquoted quote false (l ++ quote ∷ r)) k ∙ escape_steps quote b (h.0 ++ quote ∷ r) (value, r) ne rest
    ]

quoted_steps : (quote : ℕ) (t u value r : List ℕ) → t ≡ quote ∷ u → unquoted quote false u ≡ Some (value, r) → (quote ≡ 34) ⊎ (quote ≡ 39) → text_value_at t ≡ Ok (value, r)
unfolding text_value_at
quoted_steps quote t u value r parts e (inl q) =
    let t34 : t ≡ 34 ∷ u = parts ∙ ap (λ (c : ℕ). c ∷ u) q in
    let e34 : unquoted 34 false u ≡ Some (value, r) = ap (λ (c : ℕ). unquoted c false u) (sym q) ∙ e in
    rw t34 (ap (closed_quote (34 ∷ u)) e34)
quoted_steps quote t u value r parts e (inr q) =
    let t39 : t ≡ 39 ∷ u = parts ∙ ap (λ (c : ℕ). c ∷ u) q in
    let e39 : unquoted 39 false u ≡ Some (value, r) = ap (λ (c : ℕ). unquoted c false u) (sym q) ∙ e in
    rw t39 (ap (closed_quote (39 ∷ u)) e39)

quoted_again : (quote : ℕ) (s value r : List ℕ) → (92 == quote) ≡ false → (quote ≡ 34) ⊎ (quote ≡ 39) → IsQuoted quote s value → text_value_at (s ++ r) ≡ Ok (value, r)
quoted_again quote s value r ne q h =
    let whole : s ++ r ≡ quote ∷ (h.0 ++ quote ∷ r) = ap (λ (l : List ℕ). l ++ r) h.2 ∙ ap (λ (l : List ℕ). quote ∷ l) (append_assoc h.0 (quote ∷ []) r) in
    quoted_steps quote (s ++ r) (h.0 ++ quote ∷ r) value r whole (body_again quote h.0 value r ne h.1) q

not_head_by : (p : ℕ → Bool) (v : Bool) (b m : ℕ) → (b == m) ≡ v → p m ≡ false → p b ≡ true → v ≡ false
not_head_by p true b m e k h = absurd (false_true (sym k ∙ ap p (sym (eqb-true b m e)) ∙ h))
not_head_by p false b m e k h = refl

-- a run does not begin with what fails the test
pub run_front : (p : ℕ → Bool) (m : ℕ) (w r : List ℕ) → p m ≡ false → 0 < length w → AreAll p w → is_at m (w ++ r) ≡ false
run_front p m [] r k lt h = absurd (omega (arith, lt))
run_front p m (b ∷ w) r k lt h = not_head_by p (b == m) b m refl k h.0

word_steps : (t w r : List ℕ) → is_at 34 t ≡ false → is_at 39 t ≡ false → run_at Syntax is_value_byte t ≡ Ok (w, r) → text_value_at t ≡ Ok (w, r)
unfolding text_value_at
word_steps t w r h k e = rw (h, k, e) refl

text_value_again : (s value r : List ℕ) → IsQuoted 34 s value ⊎ (IsQuoted 39 s value ⊎ IsRun is_value_byte s value) → Ends is_value_byte r → text_value_at (s ++ r) ≡ Ok (value, r)
text_value_again s value r (inl h) free = quoted_again 34 s value r refl (inl refl) h
text_value_again s value r (inr (inl h)) free = quoted_again 39 s value r refl (inr refl) h
text_value_again s value r (inr (inr h)) free =
    word_steps (s ++ r) s r (run_front is_value_byte 34 s r refl h.1 h.2) (run_front is_value_byte 39 s r refl h.1 h.2) (run_again Syntax is_value_byte s r h.1 h.2 free)
    ∙ ap (λ (l : List ℕ). Ok (l, r)) h.0

tested_steps : (op : TextOp) (t value r : List ℕ) → text_value_at t ≡ Ok (value, r) → can_have op value ≡ true → tested_at op t ≡ Ok (value, r)
unfolding tested_at
tested_steps op t value r e h = rw (e, h) refl

text_value_solid : (op : TextOp) (s value r : List ℕ) → IsTextValue op s value → (skip (s ++ r) ≡ s ++ r) × (0 < length s)
text_value_solid op s value r (inl h, k) = (subst (λ (l : List ℕ). skip (l ++ r) ≡ l ++ r) (sym h.2) refl, subst (λ (l : List ℕ). 0 < length l) (sym h.2) (omega arith))
text_value_solid op s value r (inr (inl h), k) = (subst (λ (l : List ℕ). skip (l ++ r) ≡ l ++ r) (sym h.2) refl, subst (λ (l : List ℕ). 0 < length l) (sym h.2) (omega arith))
text_value_solid op s value r (inr (inr h), k) = (solid_run is_value_byte s r refl h.1 h.2, h.1)

tested_again : (op : TextOp) → Again (text_value op) (Spaced (IsTextValue op)) (Ends is_value_byte)
tested_again op = spaced_again (tested_at op) (IsTextValue op) (Ends is_value_byte) (λ s x r h. (text_value_solid op s x r h).0)
    (λ s x r h free. tested_steps op (s ++ r) x r (text_value_again s x r h.0 free) h.1)

-- ---- the whole

ended_steps : (x : PlainFilter) (t r : List ℕ) → skip t ≡ 93 ∷ r → ended x t ≡ Ok (x, r)
ended_steps x t r e = rw e refl

pub ended_again : (x : PlainFilter) → Again (ended x) (IsEnd x) Any
ended_again x s y r h free =
    let whole : s ++ r ≡ h.0 ++ 93 ∷ r = ap (λ (l : List ℕ). l ++ r) h.2 ∙ append_assoc h.0 (93 ∷ []) r in
    ended_steps x (s ++ r) r (ap skip whole ∙ to_mark h.0 r 93 h.1 refl) ∙ ap (λ (z : PlainFilter). Ok (z, r)) (sym h.3)

-- a value ends before the bracket
end_ends : (p : ℕ → Bool) (x : PlainFilter) (s : List ℕ) (y : PlainFilter) (r : List ℕ) → p 32 ≡ false → p 93 ≡ false → IsEnd x s y → Ends p (s ++ r)
end_ends p x s y r space close h = gap_ends_in p s h.0 (93 ∷ []) r h.1 h.2 space (ap not close)

spaced_some : {A : Type 0} (P : List ℕ → A → Type 0) → ((s : List ℕ) (x : A) (r : List ℕ) → P s x → (skip (s ++ r) ≡ s ++ r) × (0 < length s)) → (s : List ℕ) (x : A) → Spaced P s x → 0 < length (skip s)
spaced_some P solid s x h =
    let one = solid h.rest x [] h.is in
    let bare : skip s ≡ h.rest ++ [] = ap skip h.parts ∙ gap_skipped h.gap h.rest h.is_gap ∙ ap skip (sym (append-nil h.rest)) ∙ one.0 in
    subst (λ (l : List ℕ). 0 < length l) (sym (bare ∙ append-nil h.rest)) one.1

no_size : (s : List ℕ) → size_of 1000 (61 ∷ s) ≡ None
unfolding digits_length
no_size s = refl

abbrev nothing : Option Number
nothing = None

none_some : (n : Number) → nothing ≡ Some n → ⊥
none_some n e = absurd cc

size_by : (b : ℕ) (s : List ℕ) (n : Number) (v : Bool) → (b == 61) ≡ v → size_of 1000 (b ∷ s) ≡ Some n → not v ≡ true
size_by b s n true h k =
    let at : size_of 1000 (61 ∷ s) ≡ Some n = subst (λ (c : ℕ). size_of 1000 (c ∷ s) ≡ Some n) (eqb-true b 61 h) k in
    absurd (none_some n (sym (no_size s) ∙ at))
size_by b s n false h k = refl

size_head : (s r : List ℕ) (n : Number) → IsNumValue s n → Ends (λ b. b == 61) (s ++ r)
size_head [] r n h = absurd (omega (arith, h.0))
size_head (b ∷ s) r n h = size_by b s n (b == 61) refl h.2

marked_head : (s : List ℕ) (v : Bool × Number) (r : List ℕ) → IsMarked (Spaced IsNumValue) s v → Ends (λ b. b == 61) (s ++ r)
marked_head s (true, x) r h = gap_ends_in (λ b. b == 61) s h.0 (63 ∷ h.1) r h.2 h.4 refl refl
marked_head s (false, x) r h = let v = h.0 in gap_ends_in (λ b. b == 61) s v.gap v.rest r v.is_gap v.parts refl (size_head v.rest r x v.is)

num_value_solid : (s : List ℕ) (x : Number) (r : List ℕ) → IsNumValue s x → (skip (s ++ r) ≡ s ++ r) × (0 < length s)
num_value_solid s x r h = (solid_run is_value_byte s r refl h.0 h.1, h.0)

num_rest_again : (field : NumField) (op : NumOp) → Again (num_rest field op) (IsNumRest field op) Any
num_rest_again field op =
    then_again (marked_at num_value) (λ value. ended (num_made field op value)) (IsMarked (Spaced IsNumValue)) (λ value. IsEnd (num_made field op value)) (Ends is_value_byte) Any
    (marked_again num_value (Spaced IsNumValue) (Ends is_value_byte) (spaced_some IsNumValue num_value_solid) num_value_again)
    (λ value. ended_again (num_made field op value))
    (λ value s y r h free. end_ends is_value_byte (num_made field op value) s y r refl refl h)

then_head : {A B : Type 0} (p : ℕ → Bool) (P : List ℕ → A → Type 0) (Q : A → List ℕ → B → Type 0) → ((s : List ℕ) (x : A) (r : List ℕ) → P s x → Ends p (s ++ r)) → (s : List ℕ) (y : B) (r : List ℕ) → Then P Q s y → Ends p (s ++ r)
then_head p P Q head s y r h = subst (λ (l : List ℕ). Ends p (l ++ r)) (sym h.5) (subst (Ends p) (sym (append_assoc h.0 h.1 r)) (head h.0 h.2 (h.1 ++ r) h.3))

num_again : (field : NumField) → Again (num_filter_at field) (IsNumFilter field) Any
unfolding num_filter_at
num_again field =
    then_again (λ t. num_op_at (skip t)) (num_rest field) (Spaced (λ s op. s ≡ num_op_text op)) (IsNumRest field) (Ends (λ b. b == 61)) Any
    num_op_again (num_rest_again field)
    (λ op s y r h free. then_head (λ b. b == 61) (IsMarked (Spaced IsNumValue)) (λ value. IsEnd (num_made field op value)) marked_head s y r h)

text_rest_again : (field : TextField) (op : TextOp × Bool) → Again (text_rest field op) (IsTextRest field op) Any
text_rest_again field op =
    then_again (marked_at (text_value op.0)) (λ value. ended (text_made field op value)) (IsMarked (Spaced (IsTextValue op.0))) (λ value. IsEnd (text_made field op value)) (Ends is_value_byte) Any
    (marked_again (text_value op.0) (Spaced (IsTextValue op.0)) (Ends is_value_byte) (spaced_some (IsTextValue op.0) (text_value_solid op.0)) (tested_again op.0))
    (λ value. ended_again (text_made field op value))
    (λ value s y r h free. end_ends is_value_byte (text_made field op value) s y r refl refl h)

text_again : (field : TextField) → Again (text_filter_at field) (IsTextFilter field) Any
unfolding text_filter_at
text_again field =
    then_again (λ t. text_op_at (skip t)) (text_rest field) (Spaced (λ s op. s ≡ text_op_text op)) (IsTextRest field) Any Any
    text_op_again (text_rest_again field) (λ op s y r h free. tt)

tail_again : (field : FieldName) → Again (tail_at field) (IsTail field) Any
tail_again (names.Num field) = num_again field
tail_again (names.Text field) = text_again field

num_op_head : (op : NumOp) (r : List ℕ) → Ends is_field_byte (num_op_text op ++ r)
num_op_head nums.Lt r = refl
num_op_head nums.Le r = refl
num_op_head nums.Gt r = refl
num_op_head nums.Ge r = refl
num_op_head nums.Eq r = refl
num_op_head nums.Ne r = refl

text_op_head : (op : TextOp) (negated : Bool) (r : List ℕ) → Ends is_field_byte (text_op_text (op, negated) ++ r)
text_op_head texts.Eq true r = refl
text_op_head texts.Prefix true r = refl
text_op_head texts.Suffix true r = refl
text_op_head texts.Contains true r = refl
text_op_head texts.Matches true r = refl
text_op_head texts.Eq false r = refl
text_op_head texts.Prefix false r = refl
text_op_head texts.Suffix false r = refl
text_op_head texts.Contains false r = refl
text_op_head texts.Matches false r = refl

spaced_head : {A : Type 0} (p : ℕ → Bool) (P : List ℕ → A → Type 0) → p 32 ≡ false → ((s : List ℕ) (x : A) (r : List ℕ) → P s x → Ends p (s ++ r)) → (s : List ℕ) (x : A) (r : List ℕ) → Spaced P s x → Ends p (s ++ r)
spaced_head p P space head s x r h = gap_ends_in p s h.gap h.rest r h.is_gap h.parts space (head h.rest x r h.is)

tail_head : (field : FieldName) (s : List ℕ) (y : PlainFilter) (r : List ℕ) → IsTail field s y → Ends is_field_byte (s ++ r)
tail_head (names.Num field) s y r h =
    then_head is_field_byte (Spaced (λ s op. s ≡ num_op_text op)) (IsNumRest field)
    (spaced_head is_field_byte (λ s op. s ≡ num_op_text op) refl (λ s op r k. subst (λ (l : List ℕ). Ends is_field_byte (l ++ r)) (sym k) (num_op_head op r))) s y r h
tail_head (names.Text field) s y r h =
    then_head is_field_byte (Spaced (λ s op. s ≡ text_op_text op)) (IsTextRest field)
    (spaced_head is_field_byte (λ s op. s ≡ text_op_text op) refl (λ s op r k. subst (λ (l : List ℕ). Ends is_field_byte (l ++ r)) (sym k) (text_op_head op.0 op.1 r))) s y r h

pub filter_again : Again filter_at IsFilter Any
unfolding filter_at
filter_again = then_again (λ t. field_at (skip t)) tail_at (Spaced IsField) IsTail (Ends is_field_byte) Any field_again tail_again (λ field s y r h free. tail_head field s y r h)
