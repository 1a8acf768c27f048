-- What follows from what a crew did, for the layers above.
use Rattle.std.proofs.Common.{◌≡◌, ℕ, zero, suc, ◌+◌, ◌<◌, ◌≤◌, ⊎_elim, List, [], ◌∷◌, length, Bool, cond, eqb, eq-eqb, ne_eqb, Option, None, refl, sym, ap, ◌∙◌, subst, arith, Some}
use Rattle.std.specs.List.{slice_get}
use mathlib.Core.Option.{some, some-injective, some-ne-none}
use mathlib.Core.Logic.{dite}
use native.Mathlib.Decide.{ℕ_discrete}
use lib.ListN.{get_elem?}
use Rattle.claim_crew.specs.Claimed.{sum_of, sum_below, joined_all, Ran, RanAll, Claimed}
use Rattle.claim_crew.proofs.SumLemmas.{sum_of-append, sum_of_at, sum_of_some, at_append}

-- one at k, nothing elsewhere
abbrev is_at : ℕ → ℕ → ℕ
is_at k a = cond (eqb a k) 1 0

only_at : (k a : ℕ) → 0 < is_at k a → a ≡ k
only_at k a lt = dite (ℕ_discrete a k) (λ e. e) (λ ne. let z : is_at k a ≡ 0 = ap {B = ℕ} (λ b. cond b 1 0) (ne_eqb a k ne) in absurd (omega (arith, lt, z)))

below_at : (f : ℕ → ℕ) (k n : ℕ) → k < n → 0 < f k → 0 < sum_below f n
below_at f k zero lt some_there = absurd (omega arith)
below_at f k (suc n) lt some_there = dite (ℕ_discrete k n) (λ e. omega (arith, some_there, ap f e)) (λ ne. omega (arith, below_at f k n (omega (arith, ne)) some_there))

below_one : (k n : ℕ) → sum_below (is_at k) n ≤ 1
below_one k n = (one n).1
  where
    one : (m : ℕ) → (m ≤ k → sum_below (is_at k) m ≡ 0) × (sum_below (is_at k) m ≤ 1)
    one zero = (λ _. refl, omega arith)
    one (suc m) = dite (ℕ_discrete m k)
        (λ e. let z : is_at k m ≡ 1 = ap {B = ℕ} (λ b. cond b 1 0) (eq-eqb m k e) in (λ le. absurd (omega (arith, e, le)), omega (arith, z, (one m).0 (omega (arith, e)))))
        (λ ne. let z : is_at k m ≡ 0 = ap {B = ℕ} (λ b. cond b 1 0) (ne_eqb m k ne) in (λ le. omega (arith, z, (one m).0 (omega (arith, le))), omega (arith, z, (one m).1)))

-- Where the sums are those of the numbers below n, each of these stands in the list.
pub stands_somewhere : (l : List ℕ) (n k : ℕ) → ((f : ℕ → ℕ) → sum_of f l ≡ sum_below f n) → k < n → (i : ℕ) × (get_elem? l i ≡ some k)
stands_somewhere l n k once lt =
    let one : is_at k k ≡ 1 = ap {B = ℕ} (λ b. cond b 1 0) (eq-eqb k k refl) in
    let there : 0 < is_at k k = omega (arith, one) in
    let w = sum_of_some (is_at k) l (omega (arith, once (is_at k), below_at (is_at k) k n lt there)) in
    (w.0, subst (λ (m : ℕ). get_elem? l w.0 ≡ some m) (only_at k w.1 w.3) w.2)

-- a number that stands at two places weighs two
two_places : (k : ℕ) (l : List ℕ) (i j : ℕ) → i < j → get_elem? l i ≡ some k → get_elem? l j ≡ some k → 2 ≤ sum_of (is_at k) l
two_places k [] i j lt at at' = absurd (some-ne-none k (sym at))
two_places k (n ∷ ns) i zero lt at at' = absurd (omega (arith, lt))
two_places k (n ∷ ns) zero (suc j) lt at at' =
    let here : is_at k n ≡ 1 = ap {B = ℕ} (λ b. cond b 1 0) (eq-eqb n k (some-injective n k at)) in
    let one : is_at k k ≡ 1 = ap {B = ℕ} (λ b. cond b 1 0) (eq-eqb k k refl) in
    omega (arith, here, one, sum_of_at (is_at k) ns j k at')
two_places k (n ∷ ns) (suc i) (suc j) lt at at' = omega (arith, two_places k ns i j (omega (arith, lt)) at at')

-- what f gives of what stands at a place, if anything does
abbrev pub cost_of : {A : Type 0} → (A → ℕ) → Option A → ℕ
cost_of f None = 0
cost_of f (Some x) = f x

below_first : (g : ℕ → ℕ) (n : ℕ) → sum_below g (suc n) ≡ g 0 + sum_below (λ k. g (suc k)) n
below_first g zero = omega arith
below_first g (suc n) = omega (arith, below_first g n)

below_rest : (g : ℕ → ℕ) (c n : ℕ) → c ≤ n → ((k : ℕ) → c ≤ k → g k ≡ 0) → sum_below g n ≡ sum_below g c
below_rest g c zero le none_there = let e : 0 ≡ c = omega (arith, le) in ap (sum_below g) e
below_rest g c (suc n) le none_there = dite (ℕ_discrete c (suc n))
    (λ e. ap (sum_below g) (sym e))
    (λ ne. omega (arith, none_there n (omega (arith, le, ne)), below_rest g c n (omega (arith, le, ne)) none_there))

sum_of_below : {A : Type 0} (f : A → ℕ) (l : List A) → sum_of f l ≡ sum_below (λ k. cost_of f (slice_get l k)) (length l)
sum_of_below f [] = refl
sum_of_below f (x ∷ xs) = omega (arith, sum_of_below f xs, below_first (λ k. cost_of f (slice_get (x ∷ xs) k)) (length xs))

module _ {T H : Type 0} (does : ℕ → T → H → T → H → Type 0) (xs ys : List T) where
  -- the item k was worked on, from its place to its place
  abbrev pub WorkedOn : ℕ → Type 0
  WorkedOn k = (x : T) × (y : T) × (h : H) × (g : H) × (slice_get xs k ≡ Some x) × (slice_get ys k ≡ Some y) × does k x h y g

  in_one : (l : List ℕ) (d e : H) (i k : ℕ) → Ran does xs ys l d e → get_elem? l i ≡ some k → WorkedOn k
  in_one [] d e i k r at = absurd (some-ne-none k (sym at))
  in_one (n ∷ ns) d e zero k r at = subst WorkedOn (some-injective n k at) (r.0, r.1, d, r.2, r.3, r.4, r.5)
  in_one (n ∷ ns) d e (suc i) k r at = in_one ns r.2 e i k r.6 at

  in_all : (ls : List (List ℕ)) (ds es : List H) (i k : ℕ) → RanAll does xs ys ls ds es → get_elem? (joined_all ls) i ≡ some k → WorkedOn k
  in_all [] ds es i k r at = absurd (some-ne-none k (sym at))
  in_all (l ∷ ls) (d ∷ ds) (e ∷ es) i k r at = ⊎_elim
      (λ a. in_one l d e i k r.0 a)
      (λ (a : (j : ℕ) × (get_elem? (joined_all ls) j ≡ some k)). in_all ls ds es a.0 k r.1 a.1)
      (at_append l (joined_all ls) i k at)
  in_all (l ∷ ls) [] es i k r at = absurd r
  in_all (l ∷ ls) (d ∷ ds) [] i k r at = absurd r

  -- Each item below the count was worked on.
  pub each_drawn : (fails : T → Bool) (ds es : List H) (c : Claimed does fails xs ys ds es) (k : ℕ) → k < c.count → WorkedOn k
  each_drawn fails ds es c k lt =
      let w = stands_somewhere (joined_all c.logs) c.count k c.once lt in
      in_all c.logs ds es w.0 k c.ran w.1

  -- What each work adds to a hand, added up over all items, is in the hands.
  module _ (cost : ℕ → ℕ) (size : H → ℕ) (adds : (k : ℕ) (x y : T) (h g : H) → slice_get xs k ≡ Some x → slice_get ys k ≡ Some y → does k x h y g → cost k + size h ≤ size g) where
    sum_one : (l : List ℕ) (d e : H) → Ran does xs ys l d e → sum_of cost l + size d ≤ size e
    sum_one [] d e r = omega (arith, ap size r)
    sum_one (n ∷ ns) d e r = omega (arith, adds n r.0 r.1 d r.2 r.3 r.4 r.5, sum_one ns r.2 e r.6)

    sum_all : (ls : List (List ℕ)) (ds es : List H) → RanAll does xs ys ls ds es → sum_of cost (joined_all ls) + sum_of size ds ≤ sum_of size es
    sum_all [] [] [] r = omega arith
    sum_all (l ∷ ls) (d ∷ ds) (e ∷ es) r = omega (arith, sum_of-append cost l (joined_all ls), sum_one l d e r.0, sum_all ls ds es r.1)
    sum_all [] [] (e ∷ es) r = absurd r
    sum_all [] (d ∷ ds) es r = absurd r
    sum_all (l ∷ ls) [] es r = absurd r
    sum_all (l ∷ ls) (d ∷ ds) [] r = absurd r

    pub all_added : (fails : T → Bool) (ds es : List H) (c : Claimed does fails xs ys ds es) → sum_below cost c.count + sum_of size ds ≤ sum_of size es
    all_added fails ds es c = omega (arith, c.once cost, sum_all c.logs ds es c.ran)

  -- No number stands at two places of the logs.
  pub drawn_once : (fails : T → Bool) (ds es : List H) (c : Claimed does fails xs ys ds es) (k i j : ℕ) → i < j → get_elem? (joined_all c.logs) i ≡ some k → get_elem? (joined_all c.logs) j ≡ some k → ⊥
  drawn_once fails ds es c k i j lt at at' = omega (arith, two_places k (joined_all c.logs) i j lt at at', c.once (is_at k), below_one k c.count)

  -- Where items weigh nothing at first, what they weigh in the end was added to the hands.
  pub items_added : (fails : T → Bool) (ds es : List H) (cost : T → ℕ) (size : H → ℕ) → Claimed does fails xs ys ds es
      → ((k : ℕ) (x : T) → slice_get xs k ≡ Some x → cost x ≡ 0)
      → ((k : ℕ) (x y : T) (h g : H) → does k x h y g → cost y + size h ≤ size g)
      → sum_of cost ys + sum_of size ds ≤ sum_of size es
  items_added fails ds es cost size c none_yet adds =
      let all : sum_of cost ys ≡ sum_below at (length ys) = sum_of_below cost ys in
      let drawn : sum_below at (length ys) ≡ sum_below at c.count = below_rest at c.count (length ys) (omega (arith, c.within.0, c.within.1)) (λ k le. ap (cost_of cost) (c.rest k le) ∙ nothing (slice_get xs k) k refl) in
      omega (arith, all, drawn, all_added at size (λ k x y h g _ y-at did. omega (arith, adds k x y h g did, ap (cost_of cost) y-at)) fails ds es c)
    where
      at : ℕ → ℕ
      at k = cost_of cost (slice_get ys k)

      nothing : (o : Option T) (k : ℕ) → slice_get xs k ≡ o → cost_of cost o ≡ 0
      nothing None k e = refl
      nothing (Some x) k e = none_yet k x e
