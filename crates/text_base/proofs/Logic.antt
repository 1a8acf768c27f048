-- Plain logic of tests, options, results and lists that std's own pages lack. Before a lemma is added here, look for it there:
-- `rt lemma WORD`, and the pages Bool, Option, Result and List. What std has is cited from std:
--   not b is true or false: not-true, not-false; (b || false), (b && false), (b || true): or-false, and-false, or-true;
--   both parts of an &&: and_parts, and_from; of an ||: or_cases, or_parts, or_left, or_right, or_from;
--   a test that is not true: false_from_ne_true; true and false at once: both_ways; two `Some` that are the same: same_Some.
use Rattle.std.proofs.Common.{◌≡◌, ◌≤◌, ℕ, List, [], ◌∷◌, Bool, true, false, cond, not, ◌||◌, length, refl, sym, arith}
use Rattle.std.specs.Prelude.{Option, Some, None, Result, Ok, Err}
use Rattle.std.specs.Str.{bytes_eq}
use Rattle.std.proofs.lemmas.Bool.{false_from_ne_true, both_ways}
use Rattle.std.proofs.lemmas.List.{nil_from_length}
use Rattle.std.proofs.lemmas.Slice.Eq.{bytes_eq-Decides}

-- of two lists that are the same, the heads are, and the tails
pub same_head : {A : Type 0} (a b : A) (xs ys : List A) → a ∷ xs ≡ b ∷ ys → a ≡ b
same_head a b xs ys e = cc

pub same_tail : {A : Type 0} (a b : A) (xs ys : List A) → a ∷ xs ≡ b ∷ ys → xs ≡ ys
same_tail a b xs ys e = cc

-- a list that is no longer than nothing is empty
pub nil_from_short : {A : Type 0} (xs : List A) → length xs ≤ 0 → xs ≡ []
nil_from_short xs short = nil_from_length xs (omega arith)

-- of two results that are the same, the values are, or the faults
pub same_Ok : {T E : Type 0} (x y : T) → ◌≡◌ {A = Result T E} (Ok x) (Ok y) → x ≡ y
same_Ok x y e = cc

pub same_Err : {T E : Type 0} (x y : E) → ◌≡◌ {A = Result T E} (Err x) (Err y) → x ≡ y
same_Err x y e = cc

-- an option that holds nothing that could be named is none
pub none_from_no_some : {A : Type 0} (o : Option A) → ((x : A) → o ≡ Some x → ⊥) → o ≡ None
none_from_no_some None never = refl
none_from_no_some (Some x) never = absurd (never x refl)

-- turning the test round changes the two cases over
pub cond_turned : {A : Type 0} (b : Bool) (x y : A) → cond b x y ≡ cond (not b) y x
cond_turned true x y = refl
cond_turned false x y = refl

-- what is made of a case may be made of both
pub cond_through : {A B : Type 0} (f : A → B) (b : Bool) (x y : A) → f (cond b x y) ≡ cond b (f x) (f y)
cond_through f true x y = refl
cond_through f false x y = refl

-- two cases that are the same need no test
pub cond_same : {A : Type 0} (b : Bool) (x : A) → cond b x x ≡ x
cond_same true x = refl
cond_same false x = refl

-- two tests that are true of the same are the same
pub same_tests : (a b : Bool) → (a ≡ true → b ≡ true) → (b ≡ true → a ≡ true) → a ≡ b
same_tests true b there back = sym (there refl)
same_tests false true there back = back refl
same_tests false false there back = refl

-- of two tests that are never true at once, one is false where the other is true
pub other_false : (a b : Bool) → (b ≡ true → a ≡ false) → a ≡ true → b ≡ false
other_false a b never is = false_from_ne_true b (λ t. both_ways a (never t) is)

-- where neither is true, each of them is not
pub neither_true : (a b : Bool) → not (a || b) ≡ true → (not a ≡ true) × (not b ≡ true)
neither_true true b e = absurd (both_ways false refl e)
neither_true false b e = (refl, e)

-- texts that differ one way differ the other way
pub bytes_differ_back : (xs ys : List ℕ) → bytes_eq xs ys ≡ false → bytes_eq ys xs ≡ false
bytes_differ_back xs ys e =
    false_from_ne_true (bytes_eq ys xs) (λ t. both_ways (bytes_eq xs ys) e ((bytes_eq-Decides xs ys).1 (sym ((bytes_eq-Decides ys xs).0 t))))
