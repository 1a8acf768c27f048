-- How many bytes of a file are lasting.
use Rattle.std.specs.Prelude.{ℕ, Option, Some, None, nat_lt, if◌then◌else◌}

-- of so many lasting ones, those among the first `len`; of a file that is wholly lasting, all of these
abbrev pub least : Option ℕ → ℕ → ℕ
least None len = len
least (Some n) len = if nat_lt n len then n else len
