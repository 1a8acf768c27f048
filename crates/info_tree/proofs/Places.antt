-- The place of the first element that passes a test.
use Rattle.std.proofs.Common.{◌≡◌, ℕ, zero, suc, ◌+◌, List, [], ◌∷◌, ◌++◌, length, refl, sym, ap, subst, ◌∙◌, arith, Bool, true, false, cond, take}
use Rattle.std.specs.Prelude.{Option, Some, None, is_some, ◌||◌, nat_lt, not, slice_get}
use Rattle.std.specs.List.{position, position_or_len, list_any, IsDistinct, AllByRecursion}
use Rattle.std.specs.Str.{bytes_eq}
use Rattle.std.proofs.lemmas.Bool.Decides.{nat_tests}
use Rattle.std.proofs.lemmas.Cmp.{nat_list_eq_equiv}
use Rattle.std.proofs.lemmas.Option.{same_Some}

abbrev pub next_place : Option ℕ → Option ℕ
next_place None = None
next_place (Some i) = Some (suc i)

abbrev pub find_at : {X : Type 0} → (X → Bool) → List X → Option ℕ
find_at p [] = None
find_at p (x ∷ xs) = cond (p x) (Some 0) (next_place (find_at p xs))

position_step : (b : Bool) (a n : ℕ) →
    cond (nat_lt (cond (not b) (1 + a) 0) (suc n)) (Some (cond (not b) (1 + a) 0)) None ≡ cond b (Some 0) (next_place (cond (nat_lt a n) (Some a) None))
position_step true a n = let h : nat_lt 0 (suc n) ≡ true = grind (arith, nat_tests) in rw h
position_step false a n = step (nat_lt a n) refl
  where
    step : (c : Bool) → nat_lt a n ≡ c → cond (nat_lt (1 + a) (suc n)) (Some (1 + a)) None ≡ next_place (cond c (Some a) None)
    step true e = let h : nat_lt (1 + a) (suc n) ≡ true = grind (arith, nat_tests) in let s : 1 + a ≡ suc a = omega arith in rw (h, s)
    step false e = let h : nat_lt (1 + a) (suc n) ≡ false = grind (arith, nat_tests) in rw h

pub position_is : {X : Type 0} (p : X → Bool) (xs : List X) → position p xs ≡ find_at p xs
position_is p [] = refl
position_is p (x ∷ xs) = position_step (p x) (position_or_len p xs) (length xs) ∙ ap (λ o. cond (p x) (Some 0) (next_place o)) (position_is p xs)

any_found : {X : Type 0} (p : X → Bool) (xs : List X) → list_any p xs ≡ is_some (find_at p xs)
any_found p [] = refl
any_found p (x ∷ xs) = step (p x) (find_at p xs) (any_found p xs)
  where
    step : (b : Bool) (o : Option ℕ) → list_any p xs ≡ is_some o → (b || list_any p xs) ≡ is_some (cond b (Some 0) (next_place o))
    step true o h = refl
    step false None h = h
    step false (Some i) h = h

-- an element passes where there is a place of one
pub list_any-position : {X : Type 0} (p : X → Bool) (xs : List X) → list_any p xs ≡ is_some (position p xs)
list_any-position p xs = any_found p xs ∙ ap is_some (sym (position_is p xs))

-- the first of two places
abbrev pub first_of_two : Option ℕ → Option ℕ → Option ℕ
first_of_two None o = o
first_of_two (Some i) o = Some i

push_step : (b c : Bool) (o : Option ℕ) (n : ℕ) →
    cond b (Some 0) (next_place (first_of_two o (cond c (Some n) None))) ≡ first_of_two (cond b (Some 0) (next_place o)) (cond c (Some (suc n)) None)
push_step true c o n = refl
push_step false true None n = refl
push_step false false None n = refl
push_step false c (Some i) n = refl

find_at-push : {X : Type 0} (p : X → Bool) (xs : List X) (y : X) → find_at p (xs ++ y ∷ []) ≡ first_of_two (find_at p xs) (cond (p y) (Some (length xs)) None)
find_at-push p [] y = refl
find_at-push p (x ∷ xs) y =
    ap (λ o. cond (p x) (Some 0) (next_place o)) (find_at-push p xs y) ∙ push_step (p x) (p y) (find_at p xs) (length xs)

-- the last element is found where none before it is
pub position-push : {X : Type 0} (p : X → Bool) (xs : List X) (y : X) → position p (xs ++ y ∷ []) ≡ first_of_two (position p xs) (cond (p y) (Some (length xs)) None)
position-push p xs y =
    position_is p (xs ++ y ∷ []) ∙ find_at-push p xs y ∙ ap (λ o. first_of_two o (cond (p y) (Some (length xs)) None)) (sym (position_is p xs))

pub none_not_some : {A : Type 0} {x : A} → None ≡ Some x → ⊥
none_not_some e = cc

differs_from : (k y : List ℕ) (ks : List (List ℕ)) (i : ℕ) → AllByRecursion (λ z. bytes_eq y z ≡ false) ks → slice_get ks i ≡ Some k → bytes_eq k y ≡ false
differs_from k y [] i h e = absurd (none_not_some e)
differs_from k y (x ∷ ks) zero h e = let same : x ≡ k = same_Some x k e in nat_list_eq_equiv.symm k y ∙ subst (λ (z : List ℕ). bytes_eq y z ≡ false) same h.0
differs_from k y (x ∷ ks) (suc i) h e = differs_from k y ks i h.1 e

not_before : (ks : List (List ℕ)) (i : ℕ) (k : List ℕ) → IsDistinct bytes_eq ks → slice_get ks i ≡ Some k → find_at (bytes_eq k) (take i ks) ≡ None
unfolding IsDistinct
not_before [] i k d e = absurd (none_not_some e)
not_before (x ∷ ks) zero k d e = refl
not_before (x ∷ ks) (suc i) k d e =
    let other : bytes_eq k x ≡ false = differs_from k x ks i d.0 e in rw other (ap next_place (not_before ks i k d.1 e))

-- no text is equal to one before it
pub position-before : (ks : List (List ℕ)) (i : ℕ) (k : List ℕ) → IsDistinct bytes_eq ks → slice_get ks i ≡ Some k → position (bytes_eq k) (take i ks) ≡ None
position-before ks i k d e = position_is (bytes_eq k) (take i ks) ∙ not_before ks i k d e
