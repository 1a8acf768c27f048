-- The pairs of a map, where it has any.
use Rattle.std.specs.Prelude.{ℕ, List, [], Option, Some, None, Box}
use Rattle.std.specs.declared.alloc.Global.{Global}
use Rattle.info_tree.specs.Tree.{Tree as Plain}

-- the pairs of a map; a map that has no place for any has none
abbrev pub members_of : Option (Box (List (List ℕ × Plain)) Global) → List (List ℕ × Plain)
members_of None = []
members_of (Some members) = members.value
