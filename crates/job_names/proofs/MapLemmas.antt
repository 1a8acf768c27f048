-- Maps and sets of texts behind references, by their bytes, and what a name that is put first leaves.
use Rattle.std.proofs.Common.{◌≡◌, ℕ, zero, suc, ◌+◌, ◌<◌, List, [], ◌∷◌, ◌++◌, Bool, true, false, not, ◌||◌, Option, Some, None, is_some, cond, if◌then◌else◌, length, take, get_or, refl, sym, ◌∙◌, ap, subst, inl, inr, arith, Bor}
use Rattle.std.specs.Prelude.{bytes_eq}
use Rattle.std.specs.Option.{option_or}
use Rattle.std.specs.List.{list_any}
use Rattle.std.specs.Ordering.{is_eq, nat_cmp}
use Rattle.std.specs.Cmp.{eq_by_cmp_equiv}
use Rattle.std.specs.Cmp.Lexicographic.{slice_cmp, nat_list_cmp_total}
use Rattle.std.specs.BTreeSet.{BTreeSet, UpdatesBy}
use Rattle.std.specs.Set.{KeepsOthers}
use Rattle.std.specs.Map.{IsKeyTest, AreApart}
use Rattle.std.proofs.lemmas.Bool.{cond-true, cond-false, or_cases, or_parts, or_left, or_right}
use Rattle.std.proofs.lemmas.List.{take_more}
use Rattle.std.proofs.lemmas.List.Folds.{list_any_more, list_any-append}
use Rattle.std.proofs.lemmas.Map.Text.{is_eq-slice_cmp}
use Rattle.text_base.proofs.Logic.{same_tests}
use Rattle.job_names.specs.Text.{Text}
use Rattle.job_names.specs.Family.{has_twice}
use Rattle.job_names.specs.Index.{has_text}
use Rattle.job_names.proofs.FamilyLemmas.{same_text, text_itself}

-- equal bytes either way
pub texts_turned : (a b : Text) → bytes_eq a b ≡ bytes_eq b a
texts_turned a b = same_tests (bytes_eq a b) (bytes_eq b a) (turned a b) (turned b a)
  where
    turned : (x y : Text) → bytes_eq x y ≡ true → bytes_eq y x ≡ true
    turned x y e = subst (λ t. bytes_eq t x ≡ true) (same_text x y e) (text_itself x)

apart : (bs cs ks : Text) → bytes_eq bs cs ≡ false → bytes_eq bs ks ≡ true → bytes_eq cs ks ≡ false
apart bs cs ks n y = texts_turned cs ks ∙ subst (λ t. bytes_eq t cs ≡ false) (same_text bs ks y) n

apart_in_order : (bs cs ks : Text) → bytes_eq bs cs ≡ false → is_eq (slice_cmp nat_cmp bs ks) ≡ true → is_eq (slice_cmp nat_cmp cs ks) ≡ false
apart_in_order bs cs ks n y = is_eq-slice_cmp cs ks ∙ apart bs cs ks n (sym (is_eq-slice_cmp bs ks) ∙ y)

other_keys : {K : Type 0} (eq : K → K → Bool) (test : K → Bool) (old new : List K) → KeepsOthers eq test old new → (other : K → Bool) → IsKeyTest eq other → AreApart test other → list_any other new ≡ list_any other old
unfolding KeepsOthers
other_keys eq test old new h = h

-- what a set has once a text was put into it
pub set_updates : (bs : Text) (s n : BTreeSet (Bor Text)) → UpdatesBy (λ x y. slice_cmp nat_cmp x.now y.now) (λ k. slice_cmp nat_cmp bs k.now) s n true → (cs : Text) → has_text n cs ≡ (bytes_eq cs bs || has_text s cs)
set_updates bs s n h cs = by (bytes_eq cs bs) refl
  where
    by : (b : Bool) → bytes_eq cs bs ≡ b → has_text n cs ≡ (b || has_text s cs)
    by true e = subst (λ t. has_text n t ≡ true) (sym (same_text cs bs e)) h.1
    by false e = other_keys _ _ _ _ h.3 _ (λ x y. (eq_by_cmp_equiv nat_list_cmp_total).congr cs x.now y.now) (λ k. apart_in_order bs cs k.now (texts_turned bs cs ∙ e))

or_none : {A : Type 0} (o : Option A) → o ≡ option_or o None
or_none None = refl
or_none (Some n) = refl

some_stays : {A : Type 0} (o w : Option A) → is_some o ≡ true → o ≡ option_or o w
some_stays None w e = absurd (cc)
some_stays (Some n) w e = refl

none_gives : {A : Type 0} (o : Option A) (w : Option A) → is_some o ≡ false → w ≡ option_or o w
none_gives None w e = refl
none_gives (Some n) w e = absurd (cc)

-- a name that is there already keeps what it has
pub first_kept : {A : Type 0} (f : Text → Option A) (name other : Text) (w : Option A) → is_some (f name) ≡ true → f other ≡ option_or (f other) (if bytes_eq other name then w else None)
first_kept f name other w has = by (bytes_eq other name) refl
  where
    by : (b : Bool) → bytes_eq other name ≡ b → f other ≡ option_or (f other) (if b then w else None)
    by true e = some_stays (f other) w (subst (λ t. is_some (f t) ≡ true) (sym (same_text other name e)) has)
    by false e = or_none (f other)

-- a name that was not there
pub first_put : {A : Type 0} (f : Text → Option A) (new : Option A) (name other : Text) (w : Option A) → is_some (f name) ≡ false → new ≡ cond (bytes_eq name other) w (f other) →
    new ≡ option_or (f other) (if bytes_eq other name then w else None)
first_put f new name other w has e = by (bytes_eq other name) refl
  where
    by : (b : Bool) → bytes_eq other name ≡ b → new ≡ option_or (f other) (if b then w else None)
    by true same = e ∙ cond-true (bytes_eq name other) w (f other) (texts_turned name other ∙ same) ∙ none_gives (f other) w (subst (λ t. is_some (f t) ≡ false) (sym (same_text other name same)) has)
    by false apart = e ∙ cond-false (bytes_eq name other) w (f other) (texts_turned name other ∙ apart) ∙ or_none (f other)

-- one more text of a list is put into a set, or a map
pub has_more : (other x key : Text) (texts : List Text) (i : ℕ) (old new : Bool) → i < length texts → x ≡ get_or texts i x → key ≡ x → old ≡ list_any (bytes_eq other) (take i texts) →
    new ≡ (bytes_eq other key || old) → new ≡ list_any (bytes_eq other) (take (i + 1) texts)
has_more other x key texts i old new within at same before put =
    put ∙ (λ k. bytes_eq other (same k) || before k) ∙ turned (bytes_eq other x) (list_any (bytes_eq other) (take i texts))
    ∙ ap (λ (t : Text). list_any (bytes_eq other) (take i texts) || bytes_eq other t) at ∙ sym (list_any_more (bytes_eq other) texts i x within)
  where
    turned : (a b : Bool) → (a || b) ≡ (b || a)
    turned true true = refl
    turned true false = refl
    turned false true = refl
    turned false false = refl

any_at : {A : Type 0} (p : A → Bool) (xs : List A) (k : ℕ) (d : A) → k < length xs → p (get_or xs k d) ≡ true → list_any p xs ≡ true
any_at p [] k d within does = absurd (omega (arith, within))
any_at p (x ∷ xs) zero d within does = or_left (p x) (list_any p xs) does
any_at p (x ∷ xs) (suc k) d within does = or_right (p x) (list_any p xs) (any_at p xs k d (omega (arith, within)) does)

-- a text that stands before its place stands twice
pub twice_here : (names : List Text) (i : ℕ) (x : Text) → i < length names → x ≡ get_or names i x → list_any (bytes_eq x) (take i names) ≡ true → has_twice names ≡ true
twice_here [] i x within at e = absurd (omega (arith, within))
twice_here (n ∷ names) zero x within at e = absurd (cc)
twice_here (n ∷ names) (suc k) x within at e =
    elim (or_cases (bytes_eq x n) (list_any (bytes_eq x) (take k names)) e) [
      | inl here ↦ or_left (list_any (bytes_eq n) names) (has_twice names)
          (any_at (bytes_eq n) names k x (omega (arith, within)) (subst (λ (t : Text). bytes_eq n t ≡ true) at (subst (λ (t : Text). bytes_eq t x ≡ true) (same_text x n here) (text_itself x))))
      | inr later ↦ or_right (list_any (bytes_eq n) names) (has_twice names) (twice_here names k x (omega (arith, within)) at later)
    ]

any_last : (q : Text → Bool) (xs : List Text) (x : Text) → list_any q (xs ++ x ∷ []) ≡ (list_any q xs || q x)
any_last q xs x = list_any-append q xs (x ∷ []) ∙ ap (λ (b : Bool). list_any q xs || b) (or_false (q x))
  where
    or_false : (b : Bool) → (b || false) ≡ b
    or_false true = refl
    or_false false = refl

-- one more text that stands in none before it
once_last : (xs : List Text) (x : Text) → has_twice xs ≡ false → list_any (bytes_eq x) xs ≡ false → has_twice (xs ++ x ∷ []) ≡ false
once_last [] x once apart = refl
once_last (y ∷ xs) x once apart =
    let two = or_parts (list_any (bytes_eq y) xs) (has_twice xs) once in
    let new = or_parts (bytes_eq x y) (list_any (bytes_eq x) xs) apart in
    (λ k. neither (any_last (bytes_eq y) xs x ∙ (λ j. two.0 j || (texts_turned y x ∙ new.0) j)) (once_last xs x two.1 new.1) k)
  where
    neither : {a b : Bool} → a ≡ false → b ≡ false → (a || b) ≡ false
    neither e f = λ k. e k || f k

pub once_more : (names : List Text) (i : ℕ) (x : Text) → i < length names → x ≡ get_or names i x → has_twice (take i names) ≡ false → list_any (bytes_eq x) (take i names) ≡ false →
    has_twice (take (i + 1) names) ≡ false
once_more names i x within at once apart =
    ap has_twice (take_more names i x within) ∙ ap (λ (t : Text). has_twice (take i names ++ t ∷ [])) (sym at) ∙ once_last (take i names) x once apart

pub not_true : (b : Bool) → not b ≡ true → b ≡ false
not_true true e = absurd (cc)
not_true false e = refl

pub not_false : (b : Bool) → not b ≡ false → b ≡ true
not_false true e = refl
not_false false e = absurd (cc)
