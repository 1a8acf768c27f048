-- What a crew did.
use Rattle.std.specs.Prelude.{◌≡◌, ℕ, zero, suc, ◌+◌, ◌<◌, ◌≤◌, ◌⊎◌, List, [], ◌∷◌, ◌++◌, length, Bool, true, Some}
use Rattle.std.specs.List.{slice_get}

-- the sum of what f gives of each
abbrev pub sum_of : {A : Type 0} → (A → ℕ) → List A → ℕ
sum_of f [] = 0
sum_of f (x ∷ xs) = f x + sum_of f xs

-- the sum of what f gives of each number below n
abbrev pub sum_below : (ℕ → ℕ) → ℕ → ℕ
sum_below f zero = 0
sum_below f (suc n) = sum_below f n + f n

-- the lists, one behind the other
abbrev pub joined_all : {A : Type 0} → List (List A) → List A
joined_all [] = []
joined_all (l ∷ ls) = l ++ joined_all ls

module _ {T : Type 0} (fails : T → Bool) (ys : List T) where
  -- an item that failed is the last of its worker
  abbrev pub OnlyLastFails : List ℕ → Type 0
  OnlyLastFails log = (i k : ℕ) (y : T) → slice_get log i ≡ Some k → slice_get ys k ≡ Some y → fails y ≡ true → i + 1 ≡ length log

  -- of each worker, an item that failed is the last
  abbrev pub AllLastFail : List (List ℕ) → Type 0
  AllLastFail [] = Unit {0}
  AllLastFail (l ∷ ls) = OnlyLastFails l × AllLastFail ls

  -- an item below n failed
  abbrev pub OneFailed : ℕ → Type 0
  OneFailed n = (k : ℕ) × (y : T) × (k < n) × (slice_get ys k ≡ Some y) × (fails y ≡ true)

module _ {T H : Type 0} (does : ℕ → T → H → T → H → Type 0) (xs ys : List T) where
  -- from d to e a hand works on the items of these numbers, in order: each comes from its place in xs, and goes to its place in ys
  abbrev pub Ran : List ℕ → H → H → Type 0
  Ran [] d e = d ≡ e
  Ran (k ∷ ks) d e = (x : T) × (y : T) × (m : H) × (slice_get xs k ≡ Some x) × (slice_get ys k ≡ Some y) × does k x d y m × Ran ks m e

  -- each hand its numbers
  abbrev pub RanAll : List (List ℕ) → List H → List H → Type 0
  RanAll [] [] [] = Unit {0}
  RanAll (l ∷ ls) (d ∷ ds) (e ∷ es) = Ran l d e × RanAll ls ds es
  RanAll _ _ _ = ⊥

-- What a crew did: the items xs became ys, and the hands ds became es. `count` numbers were drawn; `logs` has those of each worker, in its order.
-- `once`, for every f, says that the numbers in the logs differ, are those below count, and stand in no two logs.
pub record Claimed {T H : Type 0} (does : ℕ → T → H → T → H → Type 0) (fails : T → Bool) (xs ys : List T) (ds es : List H) : Type 0 where
  pub count : ℕ
  pub within : (count ≤ length xs) × (length ys ≡ length xs)
  pub logs : List (List ℕ)
  pub once : (f : ℕ → ℕ) → sum_of f (joined_all logs) ≡ sum_below f count
  pub ran : RanAll does xs ys logs ds es
  pub rest : (k : ℕ) → count ≤ k → slice_get ys k ≡ slice_get xs k
  pub all : (count ≡ length xs) ⊎ OneFailed fails ys count
  pub last : AllLastFail fails ys logs
