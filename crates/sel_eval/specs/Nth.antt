-- What the n-th best of some candidates is, in words of its own.
use Rattle.std.specs.Prelude.{◌≡◌, ℕ, ◌+◌, List, filter, length, Contains, Bool, true, ◌&&◌, ◌==◌, nat_lt}
use Rattle.std.specs.List.{position_or_len}
use Rattle.sel_eval.specs.Placed.{Placed}

-- a format is better than another: its place stands earlier in the order
abbrev pub is_better : List ℕ → Placed → Placed → Bool
is_better order g f = nat_lt (position_or_len (λ k. k == g.place) order) (position_or_len (λ k. k == f.place) order)

-- a format is worse than another
abbrev pub is_worse : List ℕ → Placed → Placed → Bool
is_worse order g f = is_better order f g

-- It is a candidate among these formats, and exactly n - 1 other candidates come before it.
pub record IsNth (before : Placed → Placed → Bool) (is_candidate : Placed → Bool) (ps : List Placed) (n : ℕ) (f : Placed) : Type 0 where
  pub among : Contains ps f
  pub candidate : is_candidate f ≡ true
  pub others : length (filter (λ g. is_candidate g && before g f) ps) + 1 ≡ n
