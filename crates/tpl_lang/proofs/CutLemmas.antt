-- Where a template may be cut: behind a byte of ASCII, and before one.
use Rattle.std.proofs.Common.{◌≡◌, ℕ, zero, suc, ◌+◌, ◌<◌, ◌≤◌, lit<, Bool, true, false, ◌&&◌, not, cond, List, [], ◌∷◌, length, drop, get_or, Option, Some, None, Ok, refl, sym, subst, arith, inl, inr}
use Rattle.std.specs.Prelude.{◌==◌, nat_le}
use Rattle.std.specs.List.{prefix_len}
use Rattle.std.specs.Str.{IsUtf8, IsCharBoundary}
use Rattle.std.proofs.lemmas.Str.{IsCharBoundary-start, IsCharBoundary-end, IsCharBoundary-before_ascii, IsCharBoundary-after_ascii, IsCharBoundary-from_rest, IsUtf8-drop}
use Rattle.std.proofs.lemmas.List.Sums.{prefix_len-le-length, prefix_len_passes, prefix_len_stops}
use Rattle.std.proofs.lemmas.Bool.{cases_lt, ne_eqb, lt-leb, eqb-true, both_ways}
use Rattle.text_base.specs.Spelling.{is_digit}
use Rattle.read_base.specs.Reads.{is_at}
use Rattle.tpl_lang.specs.declared.scan.Class.{Class}
use Rattle.tpl_lang.specs.declared.scan.Class.TheVariants.{Word, Digit, Flag, Default, DateText, ReplacementText}
use Rattle.tpl_lang.specs.Bytes.{in_class}
use Rattle.tpl_lang.specs.declared.conv.Kind.{Kind}
use Rattle.tpl_lang.specs.declared.date_format.Directive.{Directive}
use Rattle.tpl_lang.specs.declared.expr.Op.{Op}
use Rattle.tpl_lang.specs.declared.replacement.Align.{Align}
use Rattle.tpl_lang.specs.ExprReading.{directive_of, first_directive, operator_of, has_decimals, point_length, number_length}
use Rattle.tpl_lang.specs.FieldReading.{align_of, kind_of, is_length, begins_length, first_kind}
use Rattle.tpl_lang.specs.Reading.{is_plain}
use Rattle.tpl_lang.specs.Ints.{minus_length, int_length}
use Rattle.tpl_lang.proofs.IntLemmas.{int_length_is}

by_len : (p : ℕ → Bool) (t : List ℕ) → IsUtf8 t → ((b : ℕ) → p b ≡ true → b < 128) → (n : ℕ) → prefix_len p t ≡ n → IsCharBoundary t n
by_len p t u ascii zero e = IsCharBoundary-start t u
by_len p t u ascii (suc n) e =
    let less : n < prefix_len p t = omega (arith, e) in
    let one : n + 1 ≡ suc n = omega arith in
    subst (IsCharBoundary t) one (IsCharBoundary-after_ascii t n u (omega (arith, less, prefix_len-le-length p t)) (ascii (get_or t n 0) (prefix_len_passes p t n 0 less)))

-- behind a run of bytes of ASCII
pub after_run : (p : ℕ → Bool) (t : List ℕ) → IsUtf8 t → ((b : ℕ) → p b ≡ true → b < 128) → IsCharBoundary t (prefix_len p t)
after_run p t u ascii = by_len p t u ascii (prefix_len p t) refl

-- before the byte of ASCII that ends a run
pub before_stop : (p : ℕ → Bool) (t : List ℕ) → ((b : ℕ) → p b ≡ false → b < 128) → IsCharBoundary t (prefix_len p t)
before_stop p t ascii = elim (cases_lt (prefix_len p t) (length t)) [
  | inl lt ↦ IsCharBoundary-before_ascii t (prefix_len p t) lt (ascii (get_or t (prefix_len p t) 0) (prefix_len_stops p t 0 lt))
  | inr le ↦ let same : length t ≡ prefix_len p t = omega (arith, le, prefix_len-le-length p t) in subst (IsCharBoundary t) same (IsCharBoundary-end t)
]

and_false : (a : Bool) → a && false ≡ false
and_false true = refl
and_false false = refl

-- a byte past ASCII is in no run of words, digits or flags
past_digit : (b : ℕ) → 128 ≤ b → in_class Digit b ≡ false
past_digit b h = rw (lt-leb b 57 (omega (arith, h)), and_false (nat_le 48 b)) refl

past_word : (b : ℕ) → 128 ≤ b → in_class Word b ≡ false
past_word b h = rw (lt-leb b 57 (omega (arith, h)), lt-leb b 90 (omega (arith, h)), lt-leb b 122 (omega (arith, h)), and_false (nat_le 48 b), and_false (nat_le 65 b), and_false (nat_le 97 b), ne_eqb b 95 (λ e. omega (arith, h, e))) refl

past_flag : (b : ℕ) → 128 ≤ b → in_class Flag b ≡ false
past_flag b h = rw (ne_eqb b 35 (λ e. omega (arith, h, e)), ne_eqb b 48 (λ e. omega (arith, h, e)), ne_eqb b 45 (λ e. omega (arith, h, e)), ne_eqb b 43 (λ e. omega (arith, h, e)), ne_eqb b 32 (λ e. omega (arith, h, e))) refl

-- a byte past ASCII ends no default, no text of a date format and none of a replacement
past_default : (b : ℕ) → 128 ≤ b → in_class Default b ≡ true
past_default b h = rw (ne_eqb b 41 (λ e. omega (arith, h, e))) refl

past_date : (b : ℕ) → 128 ≤ b → in_class DateText b ≡ true
past_date b h = rw (ne_eqb b 44 (λ e. omega (arith, h, e)), ne_eqb b 38 (λ e. omega (arith, h, e)), ne_eqb b 124 (λ e. omega (arith, h, e)), ne_eqb b 41 (λ e. omega (arith, h, e)), ne_eqb b 37 (λ e. omega (arith, h, e))) refl

past_replacement : (b : ℕ) → 128 ≤ b → in_class ReplacementText b ≡ true
past_replacement b h = rw (ne_eqb b 124 (λ e. omega (arith, h, e)), ne_eqb b 41 (λ e. omega (arith, h, e)), ne_eqb b 123 (λ e. omega (arith, h, e)), ne_eqb b 125 (λ e. omega (arith, h, e))) refl

past_plain : (b : ℕ) → 128 ≤ b → is_plain b ≡ true
past_plain b h = rw (ne_eqb b 37 (λ e. omega (arith, h, e))) refl

passes_ascii : (p : ℕ → Bool) → ((b : ℕ) → 128 ≤ b → p b ≡ false) → (b : ℕ) → p b ≡ true → b < 128
passes_ascii p past b h = elim (cases_lt b 128) [
  | inl lt ↦ lt
  | inr le ↦ absurd (both_ways (p b) (past b le) h)
]

fails_ascii : (p : ℕ → Bool) → ((b : ℕ) → 128 ≤ b → p b ≡ true) → (b : ℕ) → p b ≡ false → b < 128
fails_ascii p past b h = elim (cases_lt b 128) [
  | inl lt ↦ lt
  | inr le ↦ absurd (both_ways (p b) h (past b le))
]

-- a text may be cut behind each run
pub class_boundary : (class : Class) (t : List ℕ) → IsUtf8 t → IsCharBoundary t (prefix_len (in_class class) t)
class_boundary Word t u = after_run (in_class Word) t u (passes_ascii (in_class Word) past_word)
class_boundary Digit t u = after_run (in_class Digit) t u (passes_ascii (in_class Digit) past_digit)
class_boundary Flag t u = after_run (in_class Flag) t u (passes_ascii (in_class Flag) past_flag)
class_boundary Default t u = before_stop (in_class Default) t (fails_ascii (in_class Default) past_default)
class_boundary DateText t u = before_stop (in_class DateText) t (fails_ascii (in_class DateText) past_date)
class_boundary ReplacementText t u = before_stop (in_class ReplacementText) t (fails_ascii (in_class ReplacementText) past_replacement)

-- before the next percent sign
pub plain_boundary : (t : List ℕ) → IsCharBoundary t (prefix_len is_plain t)
plain_boundary t = before_stop is_plain t (fails_ascii is_plain past_plain)

-- within a run of digits
pub digits_boundary : (t : List ℕ) (n : ℕ) → IsUtf8 t → n ≤ prefix_len (in_class Digit) t → IsCharBoundary t n
digits_boundary t zero u le = IsCharBoundary-start t u
digits_boundary t (suc n) u le =
    let less : n < prefix_len (in_class Digit) t = omega (arith, le) in
    let one : n + 1 ≡ suc n = omega arith in
    subst (IsCharBoundary t) one (IsCharBoundary-after_ascii t n u (omega (arith, less, prefix_len-le-length (in_class Digit) t)) (passes_ascii (in_class Digit) past_digit (get_or t n 0) (prefix_len_passes (in_class Digit) t n 0 less)))

-- behind a mark of ASCII
pub mark_boundary : (mark : ℕ) (t : List ℕ) → IsUtf8 t → mark < 128 → is_at mark t ≡ true → IsCharBoundary t 1
mark_boundary mark [] u lt h = absurd cc
mark_boundary mark (b ∷ t) u lt h = IsCharBoundary-after_ascii (b ∷ t) 0 u (omega arith) (let e : b ≡ mark = eqb-true b mark h in omega (arith, lt, e))

-- a byte past ASCII is none of these
other : (b n : ℕ) → 128 ≤ b → n < 128 → (b == n) ≡ false
other b n h lt = ne_eqb b n (λ e. omega (arith, h, lt, e))

past_kind : (b : ℕ) → 128 ≤ b → kind_of b ≡ None
past_kind b h = rw (
  other b 100 h (lit< tt),
  other b 105 h (lit< tt),
  other b 117 h (lit< tt),
  other b 111 h (lit< tt),
  other b 120 h (lit< tt),
  other b 88 h (lit< tt),
  other b 102 h (lit< tt),
  other b 70 h (lit< tt),
  other b 115 h (lit< tt),
  other b 66 h (lit< tt),
  other b 106 h (lit< tt),
  other b 104 h (lit< tt),
  other b 108 h (lit< tt),
  other b 113 h (lit< tt),
  other b 68 h (lit< tt),
  other b 83 h (lit< tt),
  other b 85 h (lit< tt),
) refl

past_directive : (b : ℕ) → 128 ≤ b → directive_of b ≡ None
past_directive b h = rw (other b 89 h (lit< tt), other b 109 h (lit< tt), other b 100 h (lit< tt), other b 72 h (lit< tt), other b 77 h (lit< tt), other b 83 h (lit< tt), other b 121 h (lit< tt), other b 106 h (lit< tt), other b 37 h (lit< tt)) refl

past_length : (b : ℕ) → 128 ≤ b → is_length b ≡ false
past_length b h = rw (other b 104 h (lit< tt), other b 108 h (lit< tt), other b 76 h (lit< tt)) refl

past_operator : (b : ℕ) (t : List ℕ) → 128 ≤ b → operator_of (b ∷ t) ≡ None
past_operator b t h = rw (other b 43 h (lit< tt), other b 45 h (lit< tt), other b 42 h (lit< tt)) refl

past_align : (b : ℕ) (t : List ℕ) → 128 ≤ b → align_of (b ∷ t) ≡ None
past_align b t h = rw (other b 60 h (lit< tt), other b 62 h (lit< tt), other b 94 h (lit< tt)) refl

none_is_some : {A : Type 0} (o : Option A) (x : A) → o ≡ None → o ≡ Some x → ⊥
none_is_some None x h k = absurd cc
none_is_some (Some y) x h k = absurd cc

-- behind a first byte that is something only in ASCII
first_boundary : {A : Type 0} (b : ℕ) (t : List ℕ) (o : Option A) (x : A) → IsUtf8 (b ∷ t) → (128 ≤ b → o ≡ None) → o ≡ Some x → IsCharBoundary (b ∷ t) 1
first_boundary b t o x u past h = elim (cases_lt b 128) [
  | inl lt ↦ IsCharBoundary-after_ascii (b ∷ t) 0 u (omega arith) lt
  | inr le ↦ absurd (none_is_some o x (past le) h)
]

-- behind the letter of a type
pub kind_boundary : (t : List ℕ) (k : Kind) → IsUtf8 t → first_kind t ≡ Some k → IsCharBoundary t 1
kind_boundary [] k u h = absurd cc
kind_boundary (b ∷ t) k u h = first_boundary b t (kind_of b) k u (past_kind b) h

-- behind the letter of a directive
pub directive_boundary : (t : List ℕ) (d : Directive) → IsUtf8 t → first_directive t ≡ Some d → IsCharBoundary t 1
directive_boundary [] d u h = absurd cc
directive_boundary (b ∷ t) d u h = first_boundary b t (directive_of b) d u (past_directive b) h

-- behind a length
pub length_boundary : (t : List ℕ) → IsUtf8 t → begins_length t ≡ true → IsCharBoundary t 1
length_boundary [] u h = absurd cc
length_boundary (b ∷ t) u h = elim (cases_lt b 128) [
  | inl lt ↦ IsCharBoundary-after_ascii (b ∷ t) 0 u (omega arith) lt
  | inr le ↦ absurd (both_ways (is_length b) (past_length b le) h)
]

-- behind an operator
pub operator_boundary : (t : List ℕ) (op : Op) → IsUtf8 t → operator_of t ≡ Some op → IsCharBoundary t 1
operator_boundary [] op u h = absurd cc
operator_boundary (b ∷ t) op u h = first_boundary b t (operator_of (b ∷ t)) op u (past_operator b t) h

-- behind the side of a value
pub align_boundary : (t : List ℕ) (align : Align) → IsUtf8 t → align_of t ≡ Some align → IsCharBoundary t 1
align_boundary [] align u h = absurd cc
align_boundary (b ∷ t) align u h = first_boundary b t (align_of (b ∷ t)) align u (past_align b t) h

-- behind the digits at the front
digits_end : (t : List ℕ) → IsUtf8 t → IsCharBoundary t (prefix_len is_digit t)
digits_end t u = after_run is_digit t u (passes_ascii is_digit past_digit)

point_end : (v : List ℕ) → IsUtf8 (46 ∷ v) → IsCharBoundary (46 ∷ v) (1 + prefix_len is_digit v)
point_end v u =
    let one = IsCharBoundary-after_ascii (46 ∷ v) 0 u (omega arith) (omega arith) in
    IsCharBoundary-from_rest (46 ∷ v) 1 (prefix_len is_digit v) (omega arith) (digits_end v (IsUtf8-drop (46 ∷ v) 1 u one))

point_by : (c : Bool) (t : List ℕ) (n : ℕ) → IsUtf8 t → IsCharBoundary t n → IsCharBoundary t (cond c n 0)
point_by true t n u h = h
point_by false t n u h = IsCharBoundary-start t u

-- behind a decimal's digits
pub point_boundary : (t : List ℕ) → IsUtf8 t → is_at 46 t ≡ true → IsCharBoundary t (point_length t)
point_boundary [] u h = absurd cc
point_boundary (b ∷ v) u h =
    let dot : b ≡ 46 = eqb-true b 46 h in
    let u' : IsUtf8 (46 ∷ v) = subst (λ (c : ℕ). IsUtf8 (c ∷ v)) dot u in
    point_by (has_decimals v) (b ∷ v) (1 + prefix_len is_digit v) u (subst (λ (c : ℕ). IsCharBoundary (c ∷ v) (1 + prefix_len is_digit v)) (sym dot) (point_end v u'))

number_by : (v w z : Bool) (t : List ℕ) (n point : ℕ) → IsUtf8 t → IsCharBoundary t n → (w ≡ false → IsCharBoundary t (n + point)) → IsCharBoundary t (cond v 0 (cond w n (cond z 0 (n + point))))
number_by true w z t n point u h k = IsCharBoundary-start t u
number_by false true z t n point u h k = h
number_by false false true t n point u h k = IsCharBoundary-start t u
number_by false false false t n point u h k = k refl

dot_there : (b : Bool) → not b ≡ false → b ≡ true
dot_there true h = refl
dot_there false h = absurd cc

-- behind a number
pub number_boundary : (t : List ℕ) → IsUtf8 t → IsCharBoundary t (number_length t)
number_boundary t u =
    let n = prefix_len is_digit t in
    let here = digits_end t u in
    number_by _ _ _ t n (point_length (drop n t)) u here
    (λ h. IsCharBoundary-from_rest t n (point_length (drop n t)) here.0 (point_boundary (drop n t) (IsUtf8-drop t n u here) (dot_there (is_at 46 (drop n t)) h)))

minus_by : (c : Bool) (t : List ℕ) → IsUtf8 t → is_at 45 t ≡ c → IsCharBoundary t (cond c 1 0)
minus_by true t u h = mark_boundary 45 t u (omega arith) h
minus_by false t u h = IsCharBoundary-start t u

-- behind a minus, where one stands
pub minus_boundary : (t : List ℕ) → IsUtf8 t → IsCharBoundary t (minus_length t)
minus_boundary t u = minus_by (is_at 45 t) t u refl

-- behind an int
pub int_boundary : (t : List ℕ) (n : ℕ) → IsUtf8 t → int_length (drop (minus_length t) t) ≡ Ok n → IsCharBoundary t (minus_length t + n)
int_boundary t n u e =
    let m = minus_length t in
    let here = minus_boundary t u in
    IsCharBoundary-from_rest t m n here.0 (subst (IsCharBoundary (drop m t)) (int_length_is (drop m t) n e).len (digits_end (drop m t) (IsUtf8-drop t m u here)))
