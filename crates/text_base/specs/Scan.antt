-- The least place of a byte that ends a run.
use Rattle.std.specs.Prelude.{◌≡◌, ℕ, ◌<◌, ◌≤◌, List, length, Bool, true, false, ◌||◌, ◌==◌, nat_lt, slice_index, if◌then◌else◌}
use Rattle.std.specs.Int.{w64, trailing_zeros}

-- in a JSON string: a quote, a backslash or a control byte (RFC 8259, section 7)
abbrev pub is_json_special : ℕ → Bool
is_json_special b = nat_lt b 32 || b == 34 || b == 92

-- in a file name: % " * : < > ? | / \ and control bytes
abbrev pub is_name_special : ℕ → Bool
is_name_special b =
    nat_lt b 32 || b == 127 || b == 37 || b == 34 || b == 42 || b == 58 || b == 60 || b == 62 || b == 63 || b == 124 || b == 47 || b == 92

-- the place is the least one from `from` on whose byte passes the test, or the length
pub record IsFirst (test : ℕ → Bool) (bytes : List ℕ) (from place : ℕ) : Type 0 where
  pub after : from ≤ place
  pub within : place ≤ length bytes
  pub before : (k : ℕ) → from ≤ k → k < place → test (slice_index bytes k) ≡ false
  pub here : place < length bytes → test (slice_index bytes place) ≡ true

-- the place of the lowest bit that is set, or the length of the block
abbrev pub first_set : ℕ → ℕ → ℕ
first_set mask n = if mask == 0 then n else trailing_zeros w64 mask
