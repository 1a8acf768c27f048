-- Slices, as Python takes them.
use Rattle.std.specs.Prelude.{ℕ, zero, suc, ◌-◌, List, [], ◌∷◌, length, take, drop, reverse, Option, Some, None, min, ℤ, pos, negsuc}
use Rattle.std.specs.Option.{unwrap_or}
use Rattle.tpl_lang.specs.declared.key.Slice.{Slice}

-- a bound over n places, from the end where it is negative, and within them
abbrev pub bound : ℕ → ℤ → ℕ
bound n (pos i) = min i n
bound n (negsuc i) = n - suc i

-- the bound behind the place that a number names
abbrev pub behind : ℕ → ℤ → ℕ
behind n (pos i) = min (suc i) n
behind n (negsuc i) = n - i

-- a bound, where it is written
abbrev pub bound_or : (ℤ → ℕ) → ℕ → Option ℤ → ℕ
bound_or of other None = other
bound_or of other (Some place) = of place

-- those from a bound to before another
abbrev pub between : {A : Type 0} → ℕ → ℕ → List A → List A
between low high xs = take (high - low) (drop low xs)

-- the first behind so many, and each further one that `gap` were passed over before
abbrev pub every : {A : Type 0} → ℕ → ℕ → List A → List A
every gap wait [] = []
every gap zero (x ∷ xs) = x ∷ every gap gap xs
every gap (suc wait) (x ∷ xs) = every gap wait xs

-- from the front, with a step of one more than `gap`
abbrev pub forward : {A : Type 0} → ℕ → Slice → List A → List A
forward gap s xs = every gap 0 (between (bound_or (bound (length xs)) 0 s.from) (bound_or (bound (length xs)) (length xs) s.to) xs)

-- from the end, with a step of as many places
abbrev pub backward : {A : Type 0} → ℕ → Slice → List A → List A
backward gap s xs = every gap 0 (reverse (between (bound_or (behind (length xs)) 0 s.to) (bound_or (behind (length xs)) (length xs) s.from) xs))

-- by a step
abbrev pub stepped : {A : Type 0} → ℤ → Slice → List A → List A
stepped (pos step) s xs = forward (step - 1) s xs
stepped (negsuc gap) s xs = backward gap s xs

-- a slice, whose step is 1 where none is written
abbrev pub sliced : {A : Type 0} → Slice → List A → List A
sliced s xs = stepped (unwrap_or s.step (pos 1)) s xs
