-- A path that is cut where its fault stands has no fault before its end.
use Rattle.std.proofs.Common.{◌≡◌, ℕ, suc, ◌+◌, ◌<◌, ◌≤◌, Bool, true, false, ◌&&◌, ◌||◌, not, cond, eqb, ltb, leb, List, [], ◌∷◌, ◌++◌, length, take, drop, Option, Some, None, Ok, Err, refl, sym, ap, subst, ◌∙◌, arith, inl, inr, ◌⊎◌}
use Rattle.std.specs.Prelude.{◌==◌, ℤ}
use Rattle.std.specs.List.{prefix_len}
use Rattle.std.proofs.lemmas.Bool.{eqb-true, ne_eqb, ltb-true, le-ltb, leb-true, le-leb, and_parts, and_from, both_ways, cases_lt, not-true}
use Rattle.std.proofs.lemmas.List.{length-append, length-drop, take-append-le, nil_from_length}
use Rattle.std.proofs.lemmas.List.Sums.{prefix_len-le-length}
use Rattle.text_base.specs.Spelling.{is_digit}
use Rattle.read_base.specs.Reads.{◌>>=◌, Or, is_at, mark_at, all_at}
use Rattle.read_base.proofs.LocalLemmas.{drop_short}
use Rattle.tpl_lang.specs.declared.tpl_kind.TplKind.{TplKind}
use Rattle.tpl_lang.specs.declared.tpl_kind.TplKind.TheVariants.{Syntax, Step}
use Rattle.tpl_lang.specs.declared.key.Key.{Key}
use Rattle.tpl_lang.specs.declared.key.Key.TheVariants as keys
use Rattle.tpl_lang.specs.Bytes.{is_word_byte, has_word}
use Rattle.tpl_lang.specs.Ints.{begins_int, int_value, int_length, int_at}
use Rattle.tpl_lang.specs.Keys.{word_at, braces_at, has_bound, bound_at, is_zero, step_at, last_at, slice_behind, int_key_at, key_at, path_behind, path_at}
use Rattle.tpl_lang.specs.Spelled.{IsSomeRun, IsKey, Marked}
use Rattle.tpl_lang.proofs.AgainLemmas.{last_of_four, step_on, cond_no}
use Rattle.tpl_lang.proofs.SpellsLemmas.{marked_some, marked_spells}
use Rattle.tpl_lang.proofs.PathSpells.{word_spells, key_spells}
use Rattle.tpl_lang.proofs.OpenLemmas.{Reading, AtEnd, Less, CutsTo, Cuts, ended, Past, past_cuts, pure_cuts, same_cuts, nil_cuts, drop_cuts, Head, cond_ended, cond_cuts, at_head, then_cuts, mark_cuts, run_kept, run_full, cut_run, run_cuts, some_run_cuts, all_cuts, takes_some, drop_all_of}

-- all behind a mark
pub list_cuts : {A : Type 0} (mark : ℕ) (item : List ℕ → Reading A) (P : List ℕ → List ℕ → A → Type 0) → ((t : List ℕ) (p : A × List ℕ) → item t ≡ Ok p → (s : List ℕ) × P s p.1 p.0 × (t ≡ s ++ p.1)) → Cuts item → Cuts (all_at (is_at mark) (λ t. item (drop 1 t)))
list_cuts mark item P spells law = all_cuts (is_at mark) (λ t. item (drop 1 t)) refl (takes_some (is_at mark) (λ t. item (drop 1 t)) (Marked mark P) (marked_some mark P) (marked_spells mark item P spells)) (at_head mark) (drop_cuts item law)

pub word_cuts : Cuts word_at
word_cuts = some_run_cuts Syntax is_word_byte

pub word_head : Head has_word
word_head b r r' = refl

-- ---- the digits of an int

abbrev digits_by : ℕ → List ℕ → Reading (List ℕ)
digits_by n u =
    cond (eqb n 0) (Err (Syntax, length u)) (cond (ltb 18 n) (Err (Syntax, length (drop 18 u))) (cond (has_word (drop n u)) (Err (Syntax, length (drop n u))) (Ok (take n u, drop n u))))

abbrev pub digits_at : List ℕ → Reading (List ℕ)
digits_at u = digits_by (prefix_len is_digit u) u

full_by : (a b w : Bool) (n : ℕ) (s : List ℕ) → n ≡ length s → (a ≡ true → n ≡ 0) → b ≡ false → has_word (drop n s) ≡ w → AtEnd (cond a (Err (Syntax, length s)) (cond b (Err (Syntax, length (drop 18 s))) (cond w (Err (Syntax, length (drop n s))) (cut_run n s))))
full_by true b w n s e none h k = omega (arith, e, none refl)
full_by false true w n s e none h k = absurd cc
full_by false false true n s e none h k = absurd (both_ways (has_word (drop n s)) (ap has_word (drop_all_of n s e)) k)
full_by false false false n s e none h k = drop_all_of n s e

-- digits up to the end of the text
digits_full : (n : ℕ) (s : List ℕ) → n ≡ length s → length s ≤ 18 → AtEnd (digits_by n s)
digits_full n s e few = full_by (eqb n 0) (ltb 18 n) (has_word (drop n s)) n s e (λ z. eqb-true n 0 z) (le-ltb 18 n (omega (arith, e, few))) refl

digits_less : (a b w : Bool) (n : ℕ) (u : List ℕ) → Less u (cond a (Err (Syntax, length u)) (cond b (Err (Syntax, length (drop 18 u))) (cond w (Err (Syntax, length (drop n u))) (cut_run n u))))
digits_less true b w n u = omega arith
digits_less false true w n u = omega (arith, length-drop 18 u)
digits_less false false true n u = omega (arith, length-drop n u)
digits_less false false false n u = omega (arith, length-drop n u)

word_kept : (u c : List ℕ) → has_word (u ++ c) ≡ false → has_word u ≡ true → ⊥
word_kept [] c h k = both_ways false refl k
word_kept (b ∷ u) c h k = both_ways (is_word_byte b) h k

abbrev cut_run_of : List ℕ → List ℕ → Reading (List ℕ)
cut_run_of x y = Ok (x, y)

-- digits that end before c, behind which c or a byte before it stands
kept_by : (n : ℕ) (s c : List ℕ) → n ≤ length s → (w w' : Bool) → has_word (drop n s ++ c) ≡ w → has_word (drop n s) ≡ w' → (a b : Bool) → eqb n 0 ≡ a → ltb 18 n ≡ b
    → CutsTo c (cond a (Err (Syntax, length (s ++ c))) (cond b (Err (Syntax, length (drop 18 (s ++ c)))) (cond w (Err (Syntax, length (drop n s ++ c))) (Ok (take n (s ++ c), drop n s ++ c)))))
    (cond a (Err (Syntax, length s)) (cond b (Err (Syntax, length (drop 18 s))) (cond w' (Err (Syntax, length (drop n s))) (Ok (take n s, drop n s)))))
kept_by n s c le w w' h k true b ea eb = λ same. omega (arith, same, length-append s c)
kept_by n s c le w w' h k false true ea eb = λ same. omega (arith, same, length-drop 18 (s ++ c), length-drop 18 s, length-append s c, le, ltb-true 18 n eb)
kept_by n s c le true true h k false false ea eb = λ same. omega (arith, same, length-append (drop n s) c)
kept_by n s c le true false h k false false ea eb = λ same. nil_from_length (drop n s) (omega (arith, same, length-append (drop n s) c))
kept_by n s c le false true h k false false ea eb = absurd (word_kept (drop n s) c h k)
kept_by n s c le false false h k false false ea eb = λ big. (drop n s, refl, inl (ap (λ (l : List ℕ). cut_run_of l (drop n s)) (sym (take-append-le n s c le))))

digits_past : (n : ℕ) (s c : List ℕ) → length s < n → n ≤ length (s ++ c) → prefix_len is_digit s ≡ length s → (a b w : Bool) → eqb n 0 ≡ a → ltb 18 n ≡ b
    → CutsTo c (cond a (Err (Syntax, length (s ++ c))) (cond b (Err (Syntax, length (drop 18 (s ++ c)))) (cond w (Err (Syntax, length (drop n (s ++ c)))) (cut_run n (s ++ c))))) (digits_at s)
digits_past n s c lt le full true b w ea eb = absurd (omega (arith, lt, eqb-true n 0 ea))
digits_past n s c lt le full false true w ea eb = λ same. digits_full (prefix_len is_digit s) s full (omega (arith, same, length-drop 18 (s ++ c), length-append s c, le, ltb-true 18 n eb))
digits_past n s c lt le full false false true ea eb = λ same. absurd (omega (arith, same, length-drop n (s ++ c), length-append s c, lt, le))
digits_past n s c lt le full false false false ea eb = λ big. absurd (omega (arith, big, length-drop n (s ++ c), length-append s c, lt, le))

digits_kept : (n : ℕ) (s c : List ℕ) → n ≤ length s → CutsTo c (digits_by n (s ++ c)) (digits_by n s)
digits_kept n s c le =
    subst (λ (l : List ℕ). CutsTo c (cond (eqb n 0) (Err (Syntax, length (s ++ c))) (cond (ltb 18 n) (Err (Syntax, length (drop 18 (s ++ c)))) (cond (has_word l) (Err (Syntax, length l)) (Ok (take n (s ++ c), l))))) (digits_by n s)) (sym (drop_short n s c le))
    (kept_by n s c le (has_word (drop n s ++ c)) (has_word (drop n s)) refl refl (eqb n 0) (ltb 18 n) refl refl)

digits_cut : (s c : List ℕ) → CutsTo c (digits_at (s ++ c)) (digits_at s)
digits_cut s c =
    let n = prefix_len is_digit (s ++ c) in
    elim (cases_lt (length s) n) [
      | inl lt ↦ digits_past n s c lt (prefix_len-le-length is_digit (s ++ c)) (run_full is_digit s c (omega (arith, lt))) (eqb n 0) (ltb 18 n) (has_word (drop n (s ++ c))) refl refl
      | inr le ↦ subst (λ (m : ℕ). CutsTo c (digits_by n (s ++ c)) (digits_by m s)) (sym (run_kept is_digit s c le)) (digits_kept n s c le)
    ]

digits_cuts : Cuts digits_at
digits_cuts = record { less = λ t. digits_less (eqb (prefix_len is_digit t) 0) (ltb 18 (prefix_len is_digit t)) (has_word (drop (prefix_len is_digit t) t)) (prefix_len is_digit t) t; none = refl; cuts = digits_cut }

-- ---- ints

abbrev pub minus_then : List ℕ × List ℕ → Reading (List ℕ)
minus_then d = Ok (45 ∷ d.0, d.1)

abbrev pub int_by_digits : List ℕ → Reading (List ℕ)
int_by_digits t = cond (is_at 45 t) (digits_at (drop 1 t) >>= minus_then) (digits_at t)

abbrev counts : Bool → Bool → Bool → ℕ → List ℕ → Or TplKind ℕ
counts a b w n u = cond a (Err (Syntax, length u)) (cond b (Err (Syntax, length (drop 18 u))) (cond w (Err (Syntax, length (drop n u))) (Ok n)))

abbrev int_cut : ℕ → List ℕ → Reading (List ℕ)
int_cut m t = let u = drop m t in counts (eqb (prefix_len is_digit u) 0) (ltb 18 (prefix_len is_digit u)) (has_word (drop (prefix_len is_digit u) u)) (prefix_len is_digit u) u >>= λ n. Ok (take (m + n) t, drop (m + n) t)

minus_same : (a b w : Bool) (n : ℕ) (u : List ℕ) → (cond a (Err (Syntax, length u)) (cond b (Err (Syntax, length (drop 18 u))) (cond w (Err (Syntax, length (drop n u))) (cut_run n u))) >>= minus_then) ≡ (counts a b w n u >>= λ n. Ok (take (1 + n) (45 ∷ u), drop (1 + n) (45 ∷ u)))
minus_same true b w n u = refl
minus_same false true w n u = refl
minus_same false false true n u = refl
minus_same false false false n u = let one : suc n ≡ 1 + n = omega arith in ap (λ (k : ℕ). cut_run k (45 ∷ u)) one

plain_same : (a b w : Bool) (n : ℕ) (u : List ℕ) → cond a (Err (Syntax, length u)) (cond b (Err (Syntax, length (drop 18 u))) (cond w (Err (Syntax, length (drop n u))) (cut_run n u))) ≡ (counts a b w n u >>= λ n. Ok (take (0 + n) u, drop (0 + n) u))
plain_same true b w n u = refl
plain_same false true w n u = refl
plain_same false false true n u = refl
plain_same false false false n u = let none : n ≡ 0 + n = omega arith in ap (λ (k : ℕ). cut_run k u) none

pub int_same : (v : Bool) (t : List ℕ) → is_at 45 t ≡ v → int_by_digits t ≡ int_at t
unfolding int_at int_length
int_same v [] h = refl
int_same true (b ∷ u) h =
    let n = prefix_len is_digit u in
    subst (λ (d : ℕ). int_by_digits (d ∷ u) ≡ int_at (d ∷ u)) (sym (eqb-true b 45 h)) (minus_same (eqb n 0) (ltb 18 n) (has_word (drop n u)) n u)
int_same false (b ∷ u) h =
    let n = prefix_len is_digit (b ∷ u) in
    let e1 : int_by_digits (b ∷ u) ≡ digits_at (b ∷ u) = ap (λ (v : Bool). cond v (digits_at u >>= minus_then) (digits_at (b ∷ u))) h in
    let e2 : int_at (b ∷ u) ≡ int_cut 0 (b ∷ u) = ap (λ (v : Bool). int_cut (cond v 1 0) (b ∷ u)) h in
    e1 ∙ plain_same (eqb n 0) (ltb 18 n) (has_word (drop n (b ∷ u))) n (b ∷ u) ∙ sym e2

pub int_cuts : Cuts int_at
int_cuts = same_cuts int_by_digits int_at (λ t. int_same (is_at 45 t) t refl)
    (cond_cuts (is_at 45) (λ t. digits_at (drop 1 t) >>= minus_then) digits_at (at_head 45) (drop_cuts (λ u. digits_at u >>= minus_then) (then_cuts digits_at (λ d r. Ok (45 ∷ d, r)) digits_cuts (λ d. pure_cuts (45 ∷ d)))) digits_cuts)

digits_are : (n : ℕ) (s : List ℕ) → n ≡ length s → 0 < length s → length s ≤ 18 → digits_by n s ≡ cut_run n s
digits_are n s e some few = last_of_four (eqb n 0) (ltb 18 n) (has_word (drop n s)) (Err (Syntax, length s)) (Err (Syntax, length (drop 18 s))) (Err (Syntax, length (drop n s))) (cut_run n s)
    (ne_eqb n 0 (λ z. omega (arith, z, e, some))) (le-ltb 18 n (omega (arith, e, few))) (ap has_word (drop_all_of n s e))

-- ---- whether an int begins

first_by : (v : Bool) (n : ℕ) → 0 < cond v (1 + n) 0 → v ≡ true
first_by true n h = refl
first_by false n h = absurd (omega (arith, h))

first_digit : (b : ℕ) (u : List ℕ) → 0 < prefix_len is_digit (b ∷ u) → is_digit b ≡ true
first_digit b u h = first_by (is_digit b) (prefix_len is_digit u) h

word_before : (u c : List ℕ) → 0 < length u → has_word (u ++ c) ≡ has_word u
word_before [] c h = absurd (omega (arith, h))
word_before (b ∷ u) c h = refl

-- a text of 1 to 18 digits
record BeginsSo (s c : List ℕ) : Type 0 where
  pub full : prefix_len is_digit s ≡ length s
  pub some : 0 < length s
  pub few : length s ≤ 18

begins_full : (s : List ℕ) → prefix_len is_digit s ≡ length s → 0 < length s → length s ≤ 18 → begins_int s ≡ true
begins_full s full some few =
    let n = prefix_len is_digit s in
    and_from (leb 1 n && leb n 18) (not (has_word (drop n s))) (and_from (leb 1 n) (leb n 18) (le-leb 1 n (omega (arith, full, some))) (le-leb n 18 (omega (arith, full, few))))
    (ap (λ (l : List ℕ). not (has_word l)) (drop_all_of n s full))

-- digits that end before the end of a text end where they end with c
begins_inner : (s c : List ℕ) → prefix_len is_digit (s ++ c) < length s → begins_int (s ++ c) ≡ begins_int s
begins_inner s c lt =
    let n = prefix_len is_digit (s ++ c) in
    let m = prefix_len is_digit s in
    let same : m ≡ n = run_kept is_digit s c (omega (arith, lt)) in
    let word : has_word (drop n (s ++ c)) ≡ has_word (drop n s) = ap has_word (drop_short n s c (omega (arith, lt))) ∙ word_before (drop n s) c (omega (arith, lt, length-drop n s)) in
    ap (λ (w : Bool). leb 1 n && leb n 18 && not w) word ∙ ap (λ (k : ℕ). leb 1 k && leb k 18 && not (has_word (drop k s))) (sym same)

-- what begins with an int before c begins with one without c, where a digit is left
begins_left : (s c : List ℕ) → 0 < length s → begins_int (s ++ c) ≡ true → begins_int s ≡ true
begins_left s c some h =
    let n = prefix_len is_digit (s ++ c) in
    elim (cases_lt n (length s)) [
      | inl lt ↦ sym (begins_inner s c lt) ∙ h
      | inr le ↦
          let two = and_parts (leb 1 n && leb n 18) (not (has_word (drop n (s ++ c)))) h in
          let ones = and_parts (leb 1 n) (leb n 18) two.0 in
          begins_full s (run_full is_digit s c le) some (omega (arith, le, leb-true n 18 ones.1))
    ]

-- what begins with an int without c alone is one to its end
begins_right : (s c : List ℕ) → begins_int (s ++ c) ≡ false → begins_int s ≡ true → BeginsSo s c
begins_right s c h k =
    let n = prefix_len is_digit (s ++ c) in
    let m = prefix_len is_digit s in
    elim (cases_lt n (length s)) [
      | inl lt ↦ absurd (both_ways (begins_int s) (sym (begins_inner s c lt) ∙ h) k)
      | inr le ↦
          let full = run_full is_digit s c le in
          let two = and_parts (leb 1 m && leb m 18) (not (has_word (drop m s))) k in
          let ones = and_parts (leb 1 m) (leb m 18) two.0 in
          record { full = full; some = omega (arith, full, leb-true 1 m ones.0); few = omega (arith, full, leb-true m 18 ones.1) }
    ]

-- the int that a text is
int_full : (s : List ℕ) → prefix_len is_digit s ≡ length s → 0 < length s → length s ≤ 18 → int_at s ≡ cut_run (prefix_len is_digit s) s
int_full [] full some few = absurd (omega (arith, some))
int_full (b ∷ u) full some few =
    let n = prefix_len is_digit (b ∷ u) in
    let digit : is_digit b ≡ true = first_digit b u (omega (arith, full, some)) in
    let no_minus : (b == 45) ≡ false = ne_eqb b 45 (λ e. both_ways (is_digit 45) refl (ap is_digit (sym e) ∙ digit)) in
    sym (int_same false (b ∷ u) no_minus) ∙ ap (λ (v : Bool). cond v (digits_at u >>= minus_then) (digits_at (b ∷ u))) no_minus ∙ digits_are n (b ∷ u) full some few

-- ---- slices

abbrev pub some_int : List ℕ × List ℕ → Reading (Option ℤ)
some_int n = Ok (Some (int_value n.0), n.1)

abbrev pub no_int : List ℕ → Reading (Option ℤ)
no_int t = Ok (None, t)

int_bound_cuts : Cuts (λ t. int_at t >>= some_int)
int_bound_cuts = then_cuts int_at (λ n r. Ok (Some (int_value n), r)) int_cuts (λ n. pure_cuts (Some (int_value n)))

abbrev bound_by : Bool → List ℕ → Reading (Option ℤ)
bound_by v t = cond v (int_at t >>= some_int) (no_int t)

-- a minus and digits, read as an int
minus_is : (u : List ℕ) → prefix_len is_digit u ≡ length u → 0 < length u → length u ≤ 18 → int_at (45 ∷ u) ≡ cut_run_of (45 ∷ take (prefix_len is_digit u) u) (drop (prefix_len is_digit u) u)
minus_is u full some few = sym (int_same true (45 ∷ u) refl) ∙ ap (λ (z : Reading (List ℕ)). z >>= minus_then) (digits_are (prefix_len is_digit u) u full some few)

minus_end : (b : ℕ) (u : List ℕ) → (b == 45) ≡ true → prefix_len is_digit u ≡ length u → 0 < length u → length u ≤ 18 → AtEnd (int_at (b ∷ u) >>= some_int)
minus_end b u h full some few =
    subst (λ (d : ℕ). AtEnd (int_at (d ∷ u) >>= some_int)) (sym (eqb-true b 45 h))
    (subst (λ (z : Reading (List ℕ)). AtEnd (z >>= some_int)) (sym (minus_is u full some few)) (drop_all_of (prefix_len is_digit u) u full))

-- a minus before an int of c is read into c
minus_past : (b : ℕ) (c : List ℕ) → (b == 45) ≡ true → begins_int c ≡ true → Past c (int_at (b ∷ c) >>= some_int)
minus_past b c h k =
    let n = prefix_len is_digit c in
    let two = and_parts (leb 1 n && leb n 18) (not (has_word (drop n c))) k in
    let ones = and_parts (leb 1 n) (leb n 18) two.0 in
    let one : 1 ≤ n = leb-true 1 n ones.0 in
    let here : digits_at c ≡ cut_run n c = last_of_four (eqb n 0) (ltb 18 n) (has_word (drop n c)) (Err (Syntax, length c)) (Err (Syntax, length (drop 18 c))) (Err (Syntax, length (drop n c))) (cut_run n c)
    (ne_eqb n 0 (λ e. omega (arith, e, one))) (le-ltb 18 n (omega (arith, leb-true n 18 ones.1))) (not-true (has_word (drop n c)) two.1) in
    let is : int_at (45 ∷ c) ≡ cut_run_of (45 ∷ take n c) (drop n c) = sym (int_same true (45 ∷ c) refl) ∙ ap (λ (z : Reading (List ℕ)). z >>= minus_then) here in
    subst (λ (d : ℕ). Past c (int_at (d ∷ c) >>= some_int)) (sym (eqb-true b 45 h))
    (subst (λ (z : Reading (List ℕ)). Past c (z >>= some_int)) (sym is) (omega (arith, one, length-drop n c, prefix_len-le-length is_digit c)))

-- of two tests for a number of a slice that differ, the digits tell
bound_split : (w m i j : Bool) → (w || (m && i)) ≡ true → (w || (m && j)) ≡ false → (m ≡ true) × (i ≡ true) × (j ≡ false)
bound_split true m i j h k = absurd cc
bound_split false false i j h k = absurd cc
bound_split false true i j h k = (refl, h, k)

bound_case : (b : ℕ) (s c : List ℕ) (v v' : Bool) → has_bound (b ∷ (s ++ c)) ≡ v → has_bound (b ∷ s) ≡ v' → CutsTo c (bound_by v (b ∷ (s ++ c))) (bound_by v' (b ∷ s))
bound_case b s c true true h k = int_bound_cuts.cuts (b ∷ s) c
bound_case b s c false false h k = λ big. (b ∷ s, refl, inl refl)
bound_case b [] c true false h k =
    let t = bound_split (is_word_byte b) (b == 45) (begins_int c) (begins_int []) h k in
    past_cuts c (int_at (b ∷ c) >>= some_int) (no_int (b ∷ [])) (minus_past b c t.0 t.1)
bound_case b (d ∷ s) c true false h k =
    let t = bound_split (is_word_byte b) (b == 45) (begins_int (d ∷ (s ++ c))) (begins_int (d ∷ s)) h k in
    absurd (both_ways (begins_int (d ∷ s)) t.2 (begins_left (d ∷ s) c (omega arith) t.1))
bound_case b s c false true h k =
    let t = bound_split (is_word_byte b) (b == 45) (begins_int s) (begins_int (s ++ c)) k h in
    let so = begins_right s c t.2 t.1 in
    λ big. (b ∷ s, refl, inr (minus_end b s t.0 so.full so.some so.few))

bound_cut : (s c : List ℕ) → CutsTo c (bound_by (has_bound (s ++ c)) (s ++ c)) (bound_by (has_bound s) s)
bound_cut [] c = cond_ended c (has_bound c) (int_at c >>= some_int) (no_int c) (int_at [] >>= some_int) (no_int []) (no_int []) (int_bound_cuts.cuts [] c) (λ big. ([], refl, inl refl)) refl
bound_cut (b ∷ s) c = bound_case b s c (has_bound (b ∷ (s ++ c))) (has_bound (b ∷ s)) refl refl

bound_less : (v : Bool) (t : List ℕ) → Less t (bound_by v t)
bound_less true t = int_bound_cuts.less t
bound_less false t = omega arith

pub bound_cuts : Cuts bound_at
unfolding bound_at
bound_cuts = record { less = λ t. bound_less (has_bound t) t; none = refl; cuts = bound_cut }

-- ---- steps

abbrev step_end : ℕ → Option ℤ × List ℕ → Reading (Option ℤ)
step_end left q = cond (is_zero q.0) (cond (eqb (length q.1) 0) (Err (Syntax, 0)) (Err (Step, left))) (Ok q)

step_less_by : (z e : Bool) (left : ℕ) (t : List ℕ) (q : Option ℤ × List ℕ) → left ≤ length t → length q.1 ≤ length t → Less t (cond z (cond e (Err (Syntax, 0)) (Err (Step, left))) (Ok q))
step_less_by true true left t q l h = omega arith
step_less_by true false left t q l h = l
step_less_by false e left t q l h = h

step_less : (left : ℕ) (t : List ℕ) (r : Reading (Option ℤ)) → left ≤ length t → Less t r → Less t (r >>= step_end left)
step_less left t (Ok q) l h = step_less_by (is_zero q.0) (eqb (length q.1) 0) left t q l h
step_less left t (Err e) l h = h

step_ended_by : (z e : Bool) (left : ℕ) (q : Option ℤ × List ℕ) → q.1 ≡ [] → eqb (length q.1) 0 ≡ e → AtEnd (cond z (cond e (Err (Syntax, 0)) (Err (Step, left))) (Ok q))
step_ended_by true true left q h k = refl
step_ended_by true false left q h k = absurd (both_ways (eqb (length q.1) 0) k (ap (λ (l : List ℕ). eqb (length l) 0) h))
step_ended_by false e left q h k = h

step_ended : (left : ℕ) (r : Reading (Option ℤ)) → AtEnd r → AtEnd (r >>= step_end left)
step_ended left (Ok q) h = step_ended_by (is_zero q.0) (eqb (length q.1) 0) left q h refl
step_ended left (Err e) h = h

at_end_by_less : {A : Type 0} (t : List ℕ) (r : Reading A) → length t ≡ 0 → Less t r → AtEnd r
at_end_by_less t (Ok p) e h = nil_from_length p.1 (omega (arith, e, h))
at_end_by_less t (Err d) e h = omega (arith, e, h)

step_on_by : (q : Option ℤ × List ℕ) (r' : Reading (Option ℤ)) (left : ℕ) (m : List ℕ) → is_zero q.0 ≡ false → ((r' ≡ Ok (q.0, m)) ⊎ AtEnd r') → ((r' >>= step_end left) ≡ Ok (q.0, m)) ⊎ AtEnd (r' >>= step_end left)
step_on_by q r' left m h (inl e) =
    inl (step_on r' (step_end left) (q.0, m) e ∙ cond_no (is_zero q.0) (cond (eqb (length m) 0) (Err (Syntax, 0)) (Err (Step, left))) (Ok (q.0, m)) h)
step_on_by q r' left m h (inr end) = inr (step_ended left r' end)

step_case : (a : ℕ) (c s : List ℕ) (q : Option ℤ × List ℕ) (r' : Reading (Option ℤ)) → Less s r' → CutsTo (a ∷ c) (Ok q) r' → (z e : Bool) → is_zero q.0 ≡ z
    → CutsTo (a ∷ c) (cond z (cond e (Err (Syntax, 0)) (Err (Step, length (s ++ a ∷ c)))) (Ok q)) (r' >>= step_end (length s))
step_case a c s q r' less law true true h = λ same. absurd (omega (arith, same))
step_case a c s q r' less law true false h = λ same. let none : length s ≡ 0 = omega (arith, same, length-append s (a ∷ c)) in step_ended (length s) r' (at_end_by_less s r' none less)
step_case a c s q r' less law false e h = λ big. let m = law big in (m.0, m.1, step_on_by q r' (length s) m.0 h m.2)

step_cut_by : (a : ℕ) (c s : List ℕ) (r r' : Reading (Option ℤ)) → Less s r' → CutsTo (a ∷ c) r r' → CutsTo (a ∷ c) (r >>= step_end (length (s ++ a ∷ c))) (r' >>= step_end (length s))
step_cut_by a c s (Ok q) r' less law = step_case a c s q r' less law (is_zero q.0) (eqb (length q.1) 0) refl
step_cut_by a c s (Err e) r' less law = λ same. step_ended (length s) r' (law same)

step_cut : (s c : List ℕ) → CutsTo c (step_at (s ++ c)) (step_at s)
unfolding step_at
step_cut s [] = nil_cuts step_at s
step_cut s (a ∷ c) = step_cut_by a c s (bound_at (s ++ a ∷ c)) (bound_at s) (bound_cuts.less s) (bound_cuts.cuts s (a ∷ c))

step_cuts : Cuts step_at
unfolding step_at
step_cuts = record { less = λ t. step_less (length t) t (bound_at t) (omega arith) (bound_cuts.less t); none = step_ended 0 (bound_at []) bound_cuts.none; cuts = step_cut }

last_cuts : Cuts last_at
last_cuts = cond_cuts (is_at 58) (λ t. step_at (drop 1 t)) (λ t. Ok (None, t)) (at_head 58) (drop_cuts step_at step_cuts) (pure_cuts None)

pub slice_cuts : (from : Option ℤ) → Cuts (slice_behind from)
unfolding slice_behind
slice_cuts from = then_cuts bound_at (λ to r. last_at r >>= λ step. Ok (keys.Slice (record { from = from; to = to; step = step.0 }), step.1)) bound_cuts
    (λ to. then_cuts last_at (λ step r. Ok (keys.Slice (record { from = from; to = to; step = step }), r)) last_cuts (λ step. pure_cuts (keys.Slice (record { from = from; to = to; step = step }))))

-- ---- keys

abbrev pub int_behind : List ℕ → List ℕ → Reading Key
int_behind n t = cond (is_at 58 t) (slice_behind (Some (int_value n)) (drop 1 t)) (Ok (keys.Int n (int_value n), t))

int_behind_cuts : (n : List ℕ) → Cuts (int_behind n)
int_behind_cuts n = cond_cuts (is_at 58) (λ t. slice_behind (Some (int_value n)) (drop 1 t)) (λ t. Ok (keys.Int n (int_value n), t)) (at_head 58) (drop_cuts (slice_behind (Some (int_value n))) (slice_cuts (Some (int_value n)))) (pure_cuts (keys.Int n (int_value n)))

int_key_cuts : Cuts int_key_at
unfolding int_key_at
int_key_cuts = then_cuts int_at int_behind int_cuts int_behind_cuts

int_key_end : (s : List ℕ) → prefix_len is_digit s ≡ length s → 0 < length s → length s ≤ 18 → AtEnd (int_key_at s)
unfolding int_key_at
int_key_end s full some few =
    let n = prefix_len is_digit s in
    subst (λ (z : Reading (List ℕ)). AtEnd (z >>= λ n. int_behind n.0 n.1)) (sym (int_full s full some few)) (subst (λ (l : List ℕ). AtEnd (int_behind (take n s) l)) (sym (drop_all_of n s full)) refl)

abbrev pub word_key : List ℕ → Reading Key
word_key t = word_at t >>= λ word. Ok (keys.Word word.0, word.1)

word_key_cuts : Cuts word_key
word_key_cuts = then_cuts word_at (λ word r. Ok (keys.Word word, r)) word_cuts (λ word. pure_cuts (keys.Word word))

abbrev int_or_word : Bool → List ℕ → Reading Key
int_or_word v t = cond v (int_key_at t) (word_key t)

or_split : (m i j : Bool) → (m || i) ≡ true → (m || j) ≡ false → (i ≡ true) × (j ≡ false)
or_split true i j h k = absurd cc
or_split false i j h k = (h, k)

key_case : (b : ℕ) (s c : List ℕ) (v v' : Bool) → ((b == 45) || begins_int (b ∷ (s ++ c))) ≡ v → ((b == 45) || begins_int (b ∷ s)) ≡ v' → CutsTo c (int_or_word v (b ∷ (s ++ c))) (int_or_word v' (b ∷ s))
key_case b s c true true h k = int_key_cuts.cuts (b ∷ s) c
key_case b s c false false h k = word_key_cuts.cuts (b ∷ s) c
key_case b s c true false h k =
    let t = or_split (b == 45) (begins_int (b ∷ (s ++ c))) (begins_int (b ∷ s)) h k in
    absurd (both_ways (begins_int (b ∷ s)) t.1 (begins_left (b ∷ s) c (omega arith) t.0))
key_case b s c false true h k =
    let t = or_split (b == 45) (begins_int (b ∷ s)) (begins_int (b ∷ (s ++ c))) k h in
    let so = begins_right (b ∷ s) c t.1 t.0 in
    ended c (word_key (b ∷ (s ++ c))) (word_key (b ∷ s)) (int_key_at (b ∷ s)) (word_key_cuts.cuts (b ∷ s) c) (int_key_end (b ∷ s) so.full so.some so.few)

key_cut : (s c : List ℕ) → CutsTo c (int_or_word (is_at 45 (s ++ c) || begins_int (s ++ c)) (s ++ c)) (int_or_word (is_at 45 s || begins_int s) s)
key_cut [] c = cond_ended c (is_at 45 c || begins_int c) (int_key_at c) (word_key c) (int_key_at []) (word_key []) (word_key []) (int_key_cuts.cuts [] c) (word_key_cuts.cuts [] c) refl
key_cut (b ∷ s) c = key_case b s c (is_at 45 (b ∷ (s ++ c)) || begins_int (b ∷ (s ++ c))) (is_at 45 (b ∷ s) || begins_int (b ∷ s)) refl refl

key_less : (v : Bool) (t : List ℕ) → Less t (int_or_word v t)
key_less true t = int_key_cuts.less t
key_less false t = word_key_cuts.less t

int_or_word_cuts : Cuts (λ t. int_or_word (is_at 45 t || begins_int t) t)
int_or_word_cuts = record { less = λ t. key_less (is_at 45 t || begins_int t) t; none = refl; cuts = key_cut }

pub braces_cuts : Cuts braces_at
unfolding braces_at
braces_cuts = then_cuts word_at (λ first r. all_at (is_at 44) (λ u. word_at (drop 1 u)) r >>= λ others. mark_at Syntax 125 others.1 >>= λ rest. Ok (first ∷ others.0, rest)) word_cuts
    (λ first. then_cuts (all_at (is_at 44) (λ u. word_at (drop 1 u))) (λ others r. mark_at Syntax 125 r >>= λ rest. Ok (first ∷ others, rest)) (list_cuts 44 word_at (IsSomeRun is_word_byte) word_spells word_cuts)
    (λ others. mark_cuts Syntax 125 (λ rest. Ok (first ∷ others, rest)) (pure_cuts (first ∷ others))))

pub key_cuts : Cuts key_at
unfolding key_at
key_cuts = cond_cuts (is_at 123) (λ t. braces_at (drop 1 t) >>= λ words. Ok (keys.Braces words.0, words.1)) (λ t. cond (is_at 58 t) (slice_behind None (drop 1 t)) (int_or_word (is_at 45 t || begins_int t) t)) (at_head 123)
    (drop_cuts (λ t. braces_at t >>= λ words. Ok (keys.Braces words.0, words.1)) (then_cuts braces_at (λ words r. Ok (keys.Braces words, r)) braces_cuts (λ words. pure_cuts (keys.Braces words))))
    (cond_cuts (is_at 58) (λ t. slice_behind None (drop 1 t)) (λ t. int_or_word (is_at 45 t || begins_int t) t) (at_head 58) (drop_cuts (slice_behind None) (slice_cuts None)) int_or_word_cuts)

-- ---- paths

pub path_behind_cuts : (word : List ℕ) → Cuts (path_behind word)
unfolding path_behind
path_behind_cuts word = then_cuts (all_at (is_at 46) (λ u. key_at (drop 1 u))) (λ keys r. Ok (record { word = word; keys = keys }, r)) (list_cuts 46 key_at IsKey key_spells key_cuts) (λ keys. pure_cuts (record { word = word; keys = keys }))

pub path_cuts : Cuts path_at
unfolding path_at
path_cuts = then_cuts (λ t. cut_run (prefix_len is_word_byte t) t) path_behind (run_cuts is_word_byte) path_behind_cuts
