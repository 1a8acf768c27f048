-- A path that is spelled so is taken.
use Rattle.std.proofs.Common.{◌≡◌, ℕ, ◌+◌, ◌<◌, ◌≤◌, Bool, true, false, ◌&&◌, ◌||◌, not, cond, eqb, ltb, leb, List, [], ◌∷◌, ◌++◌, length, take, drop, Option, Some, None, Result, Ok, Err, refl, sym, ap, subst, ◌∙◌, arith, inl, inr}
use Rattle.std.specs.Prelude.{◌==◌, ℤ}
use Rattle.std.specs.List.{prefix_len}
use Rattle.std.proofs.lemmas.Bool.{ne_eqb, le-ltb, le-leb, and_from, or_parts, or_from, or_right}
use Rattle.std.proofs.lemmas.List.{drop_at}
use Rattle.text_base.specs.Spelling.{is_digit}
use Rattle.read_base.specs.Reads.{◌>>=◌, is_at, mark_at, all_at}
use Rattle.read_base.specs.Spelled.{AreAll}
use Rattle.read_base.specs.Laws.{head_is}
use Rattle.read_base.proofs.StepLemmas.{run_len}
use Rattle.tpl_lang.specs.declared.tpl_kind.TplKind.{TplKind}
use Rattle.tpl_lang.specs.declared.tpl_kind.TplKind.TheVariants.{Syntax, Step}
use Rattle.tpl_lang.specs.declared.key.Key.{Key}
use Rattle.tpl_lang.specs.declared.key.Key.TheVariants as keys
use Rattle.tpl_lang.specs.Bytes.{is_letter, is_word_byte, has_word}
use Rattle.tpl_lang.specs.Ints.{begins_int, minus_length, int_value, int_length, int_at}
use Rattle.tpl_lang.specs.Keys.{word_at, braces_at, has_bound, bound_at, is_zero, step_at, last_at, slice_behind, int_key_at, key_at, path_behind, path_at}
use Rattle.tpl_lang.specs.Spelled.{IsSomeRun, IsInt, IsBraces, IsBound, IsLast, IsSlice, IsIntKey, IsKey, IsPathBehind, IsPath}
use Rattle.tpl_lang.proofs.PathSpells.{IsStep, IsIntEnd}
use Rattle.tpl_lang.proofs.AgainLemmas.{AgainSo, taken, given, cond_yes, cond_no, third_of_four, last_of_four, step_on, front_moved, run_no_mark, cut_is, end_again, follows_again, list_again, some_run_again, run_again_so}

-- ---- ints

abbrev counted : ℕ → Result ℕ (TplKind × ℕ)
counted n = Ok n

ends_digits : (r : List ℕ) → has_word r ≡ false → head_is (λ b. not (is_digit b)) r ≡ true
ends_digits [] h = refl
ends_digits (b ∷ r) h = ap not (or_parts (is_digit b) (is_letter b) (or_parts (is_digit b || is_letter b) (b == 95) h).0).0

int_length_again : (digits r : List ℕ) → AreAll is_digit digits → 0 < length digits → length digits ≤ 18 → has_word r ≡ false → int_length (digits ++ r) ≡ Ok (length digits)
unfolding int_length
int_length_again digits r all some few ends =
    let n = prefix_len is_digit (digits ++ r) in
    let len : n ≡ length digits = run_len is_digit digits r all (ends_digits r ends) in
    let rest : drop n (digits ++ r) ≡ r = drop_at digits r n (sym len) in
    let here : int_length (digits ++ r) ≡ counted n = last_of_four (eqb n 0) (ltb 18 n) (has_word (drop n (digits ++ r))) (Err (Syntax, length (digits ++ r))) (Err (Syntax, length (drop 18 (digits ++ r)))) (Err (Syntax, length (drop n (digits ++ r)))) (Ok n)
    (ne_eqb n 0 (λ e. omega (arith, e, len, some))) (le-ltb 18 n (omega (arith, len, few))) (ap has_word rest ∙ ends) in
    here ∙ ap counted len

abbrev int_cut : ℕ → List ℕ → Result ℕ (TplKind × ℕ) → Result (List ℕ × List ℕ) (TplKind × ℕ)
int_cut m t z = z >>= λ n. Ok (take (m + n) t, drop (m + n) t)

int_from : (m n : ℕ) (t : List ℕ) → minus_length t ≡ m → int_length (drop m t) ≡ Ok n → int_at t ≡ Ok (take (m + n) t, drop (m + n) t)
unfolding int_at
int_from m n t e1 e2 = ap (λ (k : ℕ). int_cut k t (int_length (drop k t))) e1 ∙ ap (λ (z : Result ℕ (TplKind × ℕ)). int_cut m t z) e2

plain_int : (digits r : List ℕ) → AreAll is_digit digits → 0 < length digits → length digits ≤ 18 → has_word r ≡ false → int_at (digits ++ r) ≡ Ok (digits, r)
plain_int digits r all some few ends =
    let none : minus_length (digits ++ r) ≡ 0 = ap (λ (c : Bool). cond c 1 0) (run_no_mark is_digit 45 digits r refl some all) in
    int_from 0 (length digits) (digits ++ r) none (int_length_again digits r all some few ends) ∙ ap (λ (q : List ℕ × List ℕ). given q) (cut_is digits r (0 + length digits) (omega arith))

minus_int : (digits r : List ℕ) → AreAll is_digit digits → 0 < length digits → length digits ≤ 18 → has_word r ≡ false → int_at ((45 ∷ digits) ++ r) ≡ Ok (45 ∷ digits, r)
minus_int digits r all some few ends =
    int_from 1 (length digits) ((45 ∷ digits) ++ r) refl (int_length_again digits r all some few ends) ∙ ap (λ (q : List ℕ × List ℕ). given q) (cut_is (45 ∷ digits) r (1 + length digits) (omega arith))

pub int_again : AgainSo int_at IsInt
int_again s r x h = elim h.5 [
  | inl e ↦ ap (λ (l : List ℕ). int_at (l ++ r)) e ∙ plain_int h.0 r h.1 h.2 h.3 h.4 ∙ ap (λ (l : List ℕ). taken l r) (sym e ∙ sym h.6)
  | inr e ↦ ap (λ (l : List ℕ). int_at (l ++ r)) e ∙ minus_int h.0 r h.1 h.2 h.3 h.4 ∙ ap (λ (l : List ℕ). taken l r) (sym e ∙ sym h.6)
]

-- ---- slices

abbrev some_int : Result (List ℕ × List ℕ) (TplKind × ℕ) → Result (Option ℤ × List ℕ) (TplKind × ℕ)
some_int z = z >>= λ n. Ok (Some (int_value n.0), n.1)

abbrev no_int : List ℕ → Result (Option ℤ × List ℕ) (TplKind × ℕ)
no_int t = Ok (None, t)

pub bound_again : AgainSo bound_at IsBound
unfolding bound_at
bound_again s r None h = cond_no (has_bound (s ++ r)) (some_int (int_at (s ++ r))) (no_int (s ++ r)) (ap (λ (l : List ℕ). has_bound (l ++ r)) h.0 ∙ h.1) ∙ ap (λ (l : List ℕ). no_int (l ++ r)) h.0
bound_again s r (Some n) h = cond_yes (has_bound (s ++ r)) (some_int (int_at (s ++ r))) (no_int (s ++ r)) h.0 ∙ ap some_int (int_again s r h.1 h.2) ∙ ap (λ (z : ℤ). taken (Some z) r) (sym h.3)

abbrev step_end : ℕ → Option ℤ × List ℕ → Result (Option ℤ × List ℕ) (TplKind × ℕ)
step_end left q = cond (is_zero q.0) (cond (eqb (length q.1) 0) (Err (Syntax, 0)) (Err (Step, left))) (Ok q)

step_again : AgainSo step_at IsStep
unfolding step_at
step_again s r n h =
    step_on (bound_at (s ++ r)) (step_end (length (s ++ r))) (n, r) (bound_again s r n h.0)
    ∙ cond_no (is_zero n) (cond (eqb (length r) 0) (Err (Syntax, 0)) (Err (Step, length (s ++ r)))) (given (n, r)) h.1

last_again : AgainSo last_at IsLast
last_again s r x h = elim h [
  | inl a ↦ cond_no (is_at 58 (s ++ r)) (step_at (drop 1 (s ++ r))) (no_int (s ++ r)) (ap (λ (l : List ℕ). is_at 58 (l ++ r)) a.0 ∙ a.1) ∙ ap (λ (l : List ℕ). no_int (l ++ r)) a.0 ∙ ap (λ (z : Option ℤ). taken z r) (sym a.2)
  | inr b ↦ ap (λ (l : List ℕ). last_at (l ++ r)) b.2 ∙ step_again b.0 r x b.1
]

pub slice_again : (from : Option ℤ) → AgainSo (slice_behind from) (IsSlice from)
unfolding slice_behind
slice_again from = follows_again bound_at (λ to r. last_at r >>= λ step. Ok (keys.Slice (record { from = from; to = to; step = step.0 }), step.1)) _ _ bound_again
    (λ to. follows_again last_at (λ step r. Ok (keys.Slice (record { from = from; to = to; step = step }), r)) _ _ last_again (λ step. end_again (keys.Slice (record { from = from; to = to; step = step }))))

-- ---- keys

abbrev int_behind : List ℕ → List ℕ → Result (Key × List ℕ) (TplKind × ℕ)
int_behind n t = cond (is_at 58 t) (slice_behind (Some (int_value n)) (drop 1 t)) (Ok (keys.Int n (int_value n), t))

int_end_again : (n : List ℕ) → AgainSo (int_behind n) (IsIntEnd n)
int_end_again n s r x h = elim h [
  | inl a ↦
      cond_no (is_at 58 (s ++ r)) (slice_behind (Some (int_value n)) (drop 1 (s ++ r))) (given (keys.Int n (int_value n), s ++ r)) (ap (λ (l : List ℕ). is_at 58 (l ++ r)) a.1.0 ∙ a.0)
      ∙ ap (λ (l : List ℕ). taken (keys.Int n (int_value n)) (l ++ r)) a.1.0 ∙ ap (λ (z : Key). taken z r) (sym a.1.1)
  | inr b ↦ ap (λ (l : List ℕ). int_behind n (l ++ r)) b.2 ∙ slice_again (Some (int_value n)) b.0 r x b.1
]

pub int_key_again : AgainSo int_key_at IsIntKey
unfolding int_key_at
int_key_again = follows_again int_at int_behind _ _ int_again int_end_again

digits_front : (digits r : List ℕ) → AreAll is_digit digits → 0 < length digits → length digits ≤ 18 → has_word r ≡ false → begins_int (digits ++ r) ≡ true
digits_front digits r all some few ends =
    let n = prefix_len is_digit (digits ++ r) in
    let len : n ≡ length digits = run_len is_digit digits r all (ends_digits r ends) in
    let rest : drop n (digits ++ r) ≡ r = drop_at digits r n (sym len) in
    and_from (leb 1 n && leb n 18) (not (has_word (drop n (digits ++ r)))) (and_from (leb 1 n) (leb n 18) (le-leb 1 n (omega (arith, len, some))) (le-leb n 18 (omega (arith, len, few))))
    (ap (λ (l : List ℕ). not (has_word l)) rest ∙ ap not ends)

-- how a text begins with an int
record IntFront (t : List ℕ) : Type 0 where
  pub brace : is_at 123 t ≡ false
  pub colon : is_at 58 t ≡ false
  pub is_int : is_at 45 t || begins_int t ≡ true

int_front : (s r x : List ℕ) → IsInt s r x → IntFront (s ++ r)
int_front s r x h = elim h.5 [
  | inl e ↦ subst (λ (l : List ℕ). IntFront (l ++ r)) (sym e) (record {
    brace = run_no_mark is_digit 123 h.0 r refl h.2 h.1;
    colon = run_no_mark is_digit 58 h.0 r refl h.2 h.1;
    is_int = or_right (is_at 45 (h.0 ++ r)) (begins_int (h.0 ++ r)) (digits_front h.0 r h.1 h.2 h.3 h.4);
  })
  | inr e ↦ subst (λ (l : List ℕ). IntFront (l ++ r)) (sym e) (record { brace = refl; colon = refl; is_int = refl })
]

key_int : (t : List ℕ) → IntFront t → key_at t ≡ int_key_at t
unfolding key_at
key_int t f = third_of_four (is_at 123 t) (is_at 58 t) (is_at 45 t || begins_int t) _ _ _ _ f.brace f.colon f.is_int

abbrev word_key : Result (List ℕ × List ℕ) (TplKind × ℕ) → Result (Key × List ℕ) (TplKind × ℕ)
word_key z = z >>= λ word. Ok (keys.Word word.0, word.1)

key_word : (t : List ℕ) → is_at 123 t ≡ false → is_at 58 t ≡ false → (is_at 45 t || begins_int t) ≡ false → key_at t ≡ word_key (word_at t)
unfolding key_at
key_word t a b c = last_of_four (is_at 123 t) (is_at 58 t) (is_at 45 t || begins_int t) _ _ _ _ a b c

abbrev closed : List (List ℕ) → List ℕ → Result (List (List ℕ) × List ℕ) (TplKind × ℕ)
closed words t = mark_at Syntax 125 t >>= λ rest. Ok (words, rest)

close_again : (first : List ℕ) (others : List (List ℕ)) → AgainSo (closed (first ∷ others)) (λ text rest words. (text ≡ 125 ∷ []) × (words ≡ first ∷ others))
close_again first others s r x h = ap (λ (l : List ℕ). closed (first ∷ others) (l ++ r)) h.0 ∙ ap (λ (z : List (List ℕ)). taken z r) (sym h.1)

pub word_again : AgainSo word_at (IsSomeRun is_word_byte)
word_again = some_run_again Syntax is_word_byte

pub braces_again : AgainSo braces_at IsBraces
unfolding braces_at
braces_again = follows_again word_at (λ first r. all_at (is_at 44) (λ u. word_at (drop 1 u)) r >>= λ others. closed (first ∷ others.0) others.1) _ _ word_again
    (λ first. follows_again (all_at (is_at 44) (λ u. word_at (drop 1 u))) (λ others r. closed (first ∷ others) r) _ _ (list_again 44 word_at (IsSomeRun is_word_byte) word_again) (λ others. close_again first others))

abbrev braces_key : Result (List (List ℕ) × List ℕ) (TplKind × ℕ) → Result (Key × List ℕ) (TplKind × ℕ)
braces_key z = z >>= λ words. Ok (keys.Braces words.0, words.1)

pub key_again : AgainSo key_at IsKey
unfolding key_at
key_again s r x h = elim h [
  | inl a ↦ key_int (s ++ r) (subst IntFront (sym (front_moved s a.0 a.1 r a.5)) (int_front a.0 (a.1 ++ r) a.2 a.3)) ∙ int_key_again s r x a
  | inr b ↦ elim b [
    | inl c ↦ ap (λ (l : List ℕ). key_at (l ++ r)) c.2 ∙ slice_again None c.0 r x c.1
    | inr d ↦ elim d [
      | inl e ↦ ap (λ (l : List ℕ). key_at (l ++ r)) e.1.2 ∙ ap braces_key (braces_again e.1.0 r e.0 e.1.1) ∙ ap (λ (z : Key). taken z r) (sym e.2)
      | inr w ↦
          key_word (s ++ r) (run_no_mark is_word_byte 123 s r refl w.1.0 w.1.1.0) (run_no_mark is_word_byte 58 s r refl w.1.0 w.1.1.0)
          (or_from (is_at 45 (s ++ r)) (begins_int (s ++ r)) (run_no_mark is_word_byte 45 s r refl w.1.0 w.1.1.0) w.2)
          ∙ ap word_key (word_again s r w.0 w.1) ∙ ap (λ (z : Key). taken z r) (sym w.3)
    ]
  ]
]

-- ---- paths

pub path_behind_again : (word : List ℕ) → AgainSo (path_behind word) (IsPathBehind word)
unfolding path_behind
path_behind_again word = follows_again (all_at (is_at 46) (λ u. key_at (drop 1 u))) (λ keys r. Ok (record { word = word; keys = keys }, r)) _ _ (list_again 46 key_at IsKey key_again) (λ keys. end_again (record { word = word; keys = keys }))

pub path_again : AgainSo path_at IsPath
unfolding path_at
path_again = follows_again (λ t. Ok (take (prefix_len is_word_byte t) t, drop (prefix_len is_word_byte t) t)) path_behind _ _ (run_again_so is_word_byte) path_behind_again
