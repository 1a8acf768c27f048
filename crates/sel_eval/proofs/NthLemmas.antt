-- The n-th candidate of a list that stands in order is the one before which exactly n - 1 candidates stand.
use Rattle.std.proofs.Common.{◌≡◌, ℕ, zero, suc, List, [], ◌∷◌, length, filter, Bool, true, false, ◌&&◌, cond, Some, refl, ap, ◌∙◌, subst, arith, add-one}
use Rattle.std.specs.Prelude.{slice_get, ◌↔◌}
use Rattle.std.proofs.lemmas.Option.{slice_get_within, get_or_from_slice_get, slice_get-get_or}
use Rattle.sel_eval.specs.Placed.{Placed}
use Rattle.sel_eval.specs.Picks.{nth}
use Rattle.sel_eval.specs.Nth.{IsNth}

abbrev Order : Type 0
Order = Placed → Placed → Bool

-- x is before each of these, and none of them is before x
abbrev pub Leads : Order → Placed → List Placed → Type 0
Leads before x [] = Unit {0}
Leads before x (y ∷ ys) = (before x y ≡ true) × (before y x ≡ false) × Leads before x ys

-- each is before all that follow it, and before nothing else
abbrev pub Falls : Order → List Placed → Type 0
Falls before [] = Unit {0}
Falls before (x ∷ xs) = (before x x ≡ false) × Leads before x xs × Falls before xs

and_false : (b : Bool) → (b && false) ≡ false
and_false true = refl
and_false false = refl

leads_at : (before : Order) (x f : Placed) (xs : List Placed) (i : ℕ) → Leads before x xs → slice_get xs i ≡ Some f → before x f ≡ true
leads_at before x f [] i h is = absurd (let no : ⊥ = cc in no)
leads_at before x f (y ∷ ys) zero h is =
    let same : y ≡ f = cc in
    subst (λ (g : Placed). before x g ≡ true) same h.0
leads_at before x f (y ∷ ys) (suc i) h is = leads_at before x f ys i h.2 is

none_ahead : (before : Order) (test : Placed → Bool) (f : Placed) (xs : List Placed) → Leads before f xs → filter (λ g. test g && before g f) xs ≡ []
none_ahead before test f [] h = refl
none_ahead before test f (x ∷ xs) h =
    let no : (test x && before x f) ≡ false = ap (λ (b : Bool). test x && b) h.1 ∙ and_false (test x) in
    rw no (none_ahead before test f xs h.2)

-- f stands among these, is a candidate, and k candidates are before it
record Found (before : Order) (test : Placed → Bool) (f : Placed) (xs : List Placed) (k : ℕ) : Type 0 where
  spot : ℕ
  stands : slice_get xs spot ≡ Some f
  candidate : test f ≡ true
  ahead : length (filter (λ g. test g && before g f) xs) ≡ k

found_cons : (before : Order) (test : Placed → Bool) (x : Placed) (xs : List Placed) (k : ℕ) (f : Placed) (b : Bool) → test x ≡ b → Falls before (x ∷ xs)
    → ((j : ℕ) → slice_get (filter test xs) j ≡ Some f → Found before test f xs j)
    → slice_get (cond b (x ∷ filter test xs) (filter test xs)) k ≡ Some f → Found before test f (x ∷ xs) k
found_cons before test x xs zero f true e h later is =
    let same : x ≡ f = cc in
    let no : (test x && before x x) ≡ false = ap (λ (b : Bool). test x && b) h.0 ∙ and_false (test x) in
    let none : length (filter (λ g. test g && before g x) (x ∷ xs)) ≡ 0 = rw no (ap length (none_ahead before test x xs h.1)) in
    subst (λ (g : Placed). Found before test g (x ∷ xs) 0) same (record { spot = 0; stands = refl; candidate = e; ahead = none })
found_cons before test x xs (suc k) f true e h later is =
    let r = later k is in
    let yes : (test x && before x f) ≡ true = rw (e, leads_at before x f xs r.spot h.1 r.stands) in
    let count : length (filter (λ g. test g && before g f) (x ∷ xs)) ≡ suc k = rw yes (ap suc r.ahead) in
    record { spot = suc r.spot; stands = r.stands; candidate = r.candidate; ahead = count }
found_cons before test x xs k f false e h later is =
    let r = later k is in
    let no : (test x && before x f) ≡ false = rw e in
    let count : length (filter (λ g. test g && before g f) (x ∷ xs)) ≡ k = rw no r.ahead in
    record { spot = suc r.spot; stands = r.stands; candidate = r.candidate; ahead = count }

found : (before : Order) (test : Placed → Bool) (xs : List Placed) (k : ℕ) (f : Placed) → Falls before xs → slice_get (filter test xs) k ≡ Some f → Found before test f xs k
found before test [] k f h is = absurd (let no : ⊥ = cc in no)
found before test (x ∷ xs) k f h is = found_cons before test x xs k f (test x) refl h (λ j e. found before test xs j f h.2 e) is

kept_cons : (test : Placed → Bool) (x : Placed) (xs : List Placed) (i : ℕ) (f : Placed) (b : Bool) → test x ≡ b → test f ≡ true
    → ((j : ℕ) → slice_get xs j ≡ Some f → (k : ℕ) × (slice_get (filter test xs) k ≡ Some f))
    → slice_get (x ∷ xs) i ≡ Some f → (k : ℕ) × (slice_get (cond b (x ∷ filter test xs) (filter test xs)) k ≡ Some f)
kept_cons test x xs zero f true e t later is = (0, is)
kept_cons test x xs zero f false e t later is =
    let same : x ≡ f = cc in
    let one : test f ≡ false = subst (λ (g : Placed). test g ≡ false) same e in
    absurd (let no : ⊥ = cc in no)
kept_cons test x xs (suc i) f true e t later is = let r = later i is in (suc r.0, r.1)
kept_cons test x xs (suc i) f false e t later is = later i is

kept : (test : Placed → Bool) (xs : List Placed) (i : ℕ) (f : Placed) → test f ≡ true → slice_get xs i ≡ Some f → (k : ℕ) × (slice_get (filter test xs) k ≡ Some f)
kept test [] i f t is = absurd (let no : ⊥ = cc in no)
kept test (x ∷ xs) i f t is = kept_cons test x xs i f (test x) refl t (λ j e. kept test xs j f t e) is

to_nth : (before : Order) (test : Placed → Bool) (xs : List Placed) (n : ℕ) (f : Placed) → Falls before xs → nth n (filter test xs) ≡ Some f → IsNth before test xs n f
to_nth before test xs zero f h is = absurd (let no : ⊥ = cc in no)
to_nth before test xs (suc k) f h is =
    let r = found before test xs k f h is in
    record {
      among = (r.spot, slice_get_within xs r.spot f r.stands, get_or_from_slice_get xs r.spot f f r.stands);
      candidate = r.candidate;
      others = rw (r.ahead, add-one);
    }

from_nth : (before : Order) (test : Placed → Bool) (xs : List Placed) (n : ℕ) (f : Placed) → Falls before xs → IsNth before test xs n f → nth n (filter test xs) ≡ Some f
from_nth before test xs zero f h is = absurd (let no : ⊥ = omega (arith, is.others) in no)
from_nth before test xs (suc k) f h is =
    let stands : slice_get xs is.among.0 ≡ Some f = slice_get-get_or xs is.among.0 f is.among.1 ∙ ap Some is.among.2 in
    let r = kept test xs is.among.0 f is.candidate stands in
    let count = (found before test xs r.0 f h r.1).ahead in
    let same : r.0 ≡ k = omega (arith, is.others, count) in
    subst (λ (j : ℕ). slice_get (filter test xs) j ≡ Some f) same r.1

-- the n-th candidate, in its own words
pub nth_is : (before : Order) (test : Placed → Bool) (xs : List Placed) (n : ℕ) (f : Placed) → Falls before xs → (nth n (filter test xs) ≡ Some f) ↔ IsNth before test xs n f
nth_is before test xs n f h = (to_nth before test xs n f h, from_nth before test xs n f h)
