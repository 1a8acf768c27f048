-- Where a text may be cut: behind an ASCII byte, and where a run ends.
use Rattle.std.proofs.Common.{◌≡◌, ℕ, zero, suc, ◌+◌, ◌<◌, ◌≤◌, Bool, ◌&&◌, true, false, cond, List, [], ◌∷◌, length, take, get_or, refl, sym, ap, subst, ◌∙◌, arith, inl, inr}
use Rattle.std.specs.Prelude.{nat_le}
use Rattle.std.specs.List.{prefix_len}
use Rattle.std.specs.Str.{IsAscii, IsUtf8, IsCharBoundary}
use Rattle.std.proofs.lemmas.Str.{IsUtf8-from_ascii, IsCharBoundary-after_ascii, IsCharBoundary-from_take}
use Rattle.std.proofs.lemmas.Bool.{cases_lt, ne_eqb, eqb-true, lt-leb}
use Rattle.std.proofs.lemmas.List.Sums.{prefix_len-le-length}
use Rattle.read_base.specs.Reads.{is_at}
use Rattle.read_base.specs.Spelled.{AreAll}
use Rattle.read_base.proofs.StepLemmas.{run_all}
use Rattle.sel_lang.specs.Marks.{is_field_byte, is_name_byte, is_value_byte}

false_true : false ≡ true → ⊥
false_true e = absurd cc

and_false : (a : Bool) → a && false ≡ false
and_false true = refl
and_false false = refl

-- behind a mark that is ASCII
pub past_mark : (mark : ℕ) (t : List ℕ) → mark < 128 → is_at mark t ≡ true → IsUtf8 t → IsCharBoundary t 1
past_mark mark [] small h u = absurd cc
past_mark mark (b ∷ t) small h u =
    let same : b ≡ mark = eqb-true b mark h in
    let low : b < 128 = omega (arith, same, small) in
    IsCharBoundary-after_ascii (b ∷ t) 0 u (omega arith) low

stops_by : (p : ℕ → Bool) (v : Bool) (b : ℕ) (t : List ℕ) → p b ≡ v → (prefix_len p t < length t → p (get_or t (prefix_len p t) 0) ≡ false)
    → cond v (1 + prefix_len p t) 0 < suc (length t) → p (get_or (b ∷ t) (cond v (1 + prefix_len p t) 0) 0) ≡ false
stops_by p true b t e so h =
    let one : suc (prefix_len p t) ≡ 1 + prefix_len p t = omega arith in
    let lt : prefix_len p t < length t = omega (arith, h) in
    subst (λ (n : ℕ). p (get_or (b ∷ t) n 0) ≡ false) one (so lt)
stops_by p false b t e so h = e

-- the byte behind a run fails the test
stops : (p : ℕ → Bool) (t : List ℕ) → prefix_len p t < length t → p (get_or t (prefix_len p t) 0) ≡ false
stops p [] h = absurd (omega (arith, h))
stops p (b ∷ t) h = stops_by p (p b) b t refl (stops p t) h

-- a run of bytes that may be of any script ends before an ASCII byte
run_cut : (p : ℕ → Bool) → ((b : ℕ) → 128 ≤ b → p b ≡ true) → (t : List ℕ) → IsCharBoundary t (prefix_len p t)
run_cut p high t = (prefix_len-le-length p t, λ lt big. absurd (false_true (sym (stops p t lt) ∙ high _ big)))

past_name : (b : ℕ) → 128 ≤ b → is_name_byte b ≡ true
past_name b h =
    rw (ne_eqb b 44 (λ e. omega (arith, h, e)), ne_eqb b 47 (λ e. omega (arith, h, e)), ne_eqb b 43 (λ e. omega (arith, h, e)), ne_eqb b 40 (λ e. omega (arith, h, e)), ne_eqb b 41 (λ e. omega (arith, h, e)), ne_eqb b 91 (λ e. omega (arith, h, e)), ne_eqb b 93 (λ e. omega (arith, h, e)), ne_eqb b 32 (λ e. omega (arith, h, e))) refl

pub name_cut : (t : List ℕ) → IsCharBoundary t (prefix_len is_name_byte t)
name_cut = run_cut is_name_byte past_name

past_value : (b : ℕ) → 128 ≤ b → is_value_byte b ≡ true
past_value b h =
    rw (ne_eqb b 93 (λ e. omega (arith, h, e)), ne_eqb b 34 (λ e. omega (arith, h, e)), ne_eqb b 39 (λ e. omega (arith, h, e)), ne_eqb b 32 (λ e. omega (arith, h, e))) refl

pub value_cut : (t : List ℕ) → IsCharBoundary t (prefix_len is_value_byte t)
value_cut = run_cut is_value_byte past_value

past_field : (b : ℕ) → 128 ≤ b → is_field_byte b ≡ false
past_field b h = rw (lt-leb b 57 (omega (arith, h)), lt-leb b 90 (omega (arith, h)), lt-leb b 122 (omega (arith, h)), and_false (nat_le 48 b), and_false (nat_le 65 b), and_false (nat_le 97 b), ne_eqb b 95 (λ e. omega (arith, h, e))) refl

field_low : (b : ℕ) → is_field_byte b ≡ true → b < 128
field_low b h = elim (cases_lt b 128) [
  | inl lt ↦ lt
  | inr le ↦ absurd (false_true (sym (past_field b le) ∙ h))
]

field_ascii : (w : List ℕ) → AreAll is_field_byte w → IsAscii w
field_ascii [] h i = omega arith
field_ascii (b ∷ w) h zero = field_low b h.0
field_ascii (b ∷ w) h (suc i) = field_ascii w h.1 i

-- the name of a field is ASCII
pub field_cut : (t : List ℕ) → IsUtf8 t → IsCharBoundary t (prefix_len is_field_byte t)
field_cut t u =
    IsCharBoundary-from_take t (prefix_len is_field_byte t) u (prefix_len-le-length is_field_byte t)
    (IsUtf8-from_ascii (take (prefix_len is_field_byte t) t) (field_ascii (take (prefix_len is_field_byte t) t) (run_all is_field_byte t)))

-- ---- the same, as the goals of slicing ask for it

abbrev pub HasLead : List ℕ → ℕ → Type 0
HasLead t n = n < length t → 128 ≤ get_or t n 0 → 192 ≤ get_or t n 0

pub mark_within : (mark : ℕ) (t : List ℕ) → is_at mark t ≡ true → 1 ≤ length t
mark_within mark [] h = absurd cc
mark_within mark (b ∷ t) h = omega arith

pub mark_lead : (mark : ℕ) (t : List ℕ) → mark < 128 → is_at mark t ≡ true → IsUtf8 t → HasLead t 1
mark_lead mark t small h u = (past_mark mark t small h u).1

pub field_within : (t bytes : List ℕ) (n : ℕ) → bytes ≡ t → n ≡ prefix_len is_field_byte bytes → n ≤ length t
field_within t bytes n e h = rw (h, e) (prefix_len-le-length is_field_byte t)

pub field_lead : (t bytes : List ℕ) (n : ℕ) → bytes ≡ t → n ≡ prefix_len is_field_byte bytes → IsUtf8 t → HasLead t n
field_lead t bytes n e h u = let cut = (field_cut t u).1 in subst (HasLead t) (sym (h ∙ ap (prefix_len is_field_byte) e)) cut

pub name_within : (t bytes : List ℕ) (n : ℕ) → bytes ≡ t → n ≡ prefix_len is_name_byte bytes → n ≤ length t
name_within t bytes n e h = rw (h, e) (prefix_len-le-length is_name_byte t)

pub name_lead : (t bytes : List ℕ) (n : ℕ) → bytes ≡ t → n ≡ prefix_len is_name_byte bytes → HasLead t n
name_lead t bytes n e h = let cut = (name_cut t).1 in subst (HasLead t) (sym (h ∙ ap (prefix_len is_name_byte) e)) cut

pub value_within : (t bytes : List ℕ) (n : ℕ) → bytes ≡ t → n ≡ prefix_len is_value_byte bytes → n ≤ length t
value_within t bytes n e h = rw (h, e) (prefix_len-le-length is_value_byte t)

pub value_lead : (t bytes : List ℕ) (n : ℕ) → bytes ≡ t → n ≡ prefix_len is_value_byte bytes → HasLead t n
value_lead t bytes n e h = let cut = (value_cut t).1 in subst (HasLead t) (sym (h ∙ ap (prefix_len is_value_byte) e)) cut
