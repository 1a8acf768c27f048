-- How many lists and maps are open at once.
use Rattle.std.specs.Prelude.{ℕ, ◌+◌, ◌-◌, ◌≤◌, List, [], ◌∷◌}
use Rattle.info_tree.specs.Token.{Token, begin_list, end_list, begin_map, end_map, comma, colon, word, numeral, string}

-- the level behind a token
abbrev pub level : ℕ → Token → ℕ
level n begin_list = n + 1
level n end_list = n - 1
level n begin_map = n + 1
level n end_map = n - 1
level n comma = n
level n colon = n
level n (word w) = n
level n (numeral s) = n
level n (string s) = n

-- the level behind tokens
abbrev pub levels : ℕ → List Token → ℕ
levels n [] = n
levels n (t ∷ ts) = levels (level n t) ts

-- no token opens a level past the limit
abbrev pub StayWithin : ℕ → ℕ → List Token → Type 0
StayWithin limit n [] = Unit {0}
StayWithin limit n (t ∷ ts) = (level n t ≤ limit) × StayWithin limit (level n t) ts
