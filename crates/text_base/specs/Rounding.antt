-- Rounding half to even by a count of tenths.
use Rattle.std.specs.Prelude.{◌≡◌, ℕ, ◌*◌, ◌/◌, ◌%◌, ◌^◌, ◌<◌, Bool, ◌&&◌, ◌||◌, ◌==◌, not, nat_lt, min}

-- the count of tenths in n / d, up to 10^28, and whether anything is behind it
pub record AreTenths (tenths : ℕ) (is_cut : Bool) (n d : ℕ) : Type 0 where
  pub divides : 0 < d
  pub count : tenths ≡ min ((10 * n) / d) (10 ^ 28)
  pub cut : is_cut ≡ not ((10 * n) % d == 0)

-- whether a count of tenths is rounded up
abbrev pub is_rounded_up : ℕ → Bool → Bool
is_rounded_up tenths is_cut =
    nat_lt 5 (tenths % 10) || (tenths % 10 == 5) && (is_cut || (tenths / 10) % 2 == 1)
