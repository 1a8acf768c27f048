-- Which bytes may stand where.
use Rattle.std.specs.Prelude.{ℕ, Bool, not, ◌||◌, ◌&&◌, ◌==◌, nat_le}

-- a letter, a digit or `_`
abbrev pub is_field_byte : ℕ → Bool
is_field_byte b = nat_le 48 b && nat_le b 57 || nat_le 65 b && nat_le b 90 || nat_le 97 b && nat_le b 122 || b == 95

-- what may stand in a name: all but `,`, `/`, `+`, brackets and space
abbrev pub is_name_byte : ℕ → Bool
is_name_byte b = not (b == 44 || b == 47 || b == 43 || b == 40 || b == 41 || b == 91 || b == 93 || b == 32)

-- what may stand in a value without quotes: all but `]`, quotes and space
abbrev pub is_value_byte : ℕ → Bool
is_value_byte b = not (b == 93 || b == 34 || b == 39 || b == 32)

-- the two quotes
abbrev pub is_quote : ℕ → Bool
is_quote b = b == 34 || b == 39
