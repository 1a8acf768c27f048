-- Pairs of a key and a tree: the value under a key, and a pair put among them.
use Rattle.std.specs.Prelude.{◌≡◌, ℕ, List, [], ◌∷◌, Option, Some, None, if◌then◌else◌, slice_get}
use Rattle.std.specs.Str.{bytes_eq}
use Rattle.info_tree.specs.Tree.{Tree, null, truth, number, text, list, mapping, Pairs, no_pairs, a_pair, tree_list}

-- the value under a key
abbrev pub value_at : List (List ℕ × Tree) → List ℕ → Option Tree
value_at [] key = None
value_at (p ∷ ps) key = if bytes_eq key p.0 then Some p.1 else value_at ps key

-- each key stands once
abbrev pub HaveDistinctKeys : List (List ℕ × Tree) → Type 0
HaveDistinctKeys [] = Unit {0}
HaveDistinctKeys (p ∷ ps) = (value_at ps p.0 ≡ None) × HaveDistinctKeys ps

-- a key that stands keeps its place and takes the new value; another key goes last
abbrev pub put : List (List ℕ × Tree) → List ℕ → Tree → List (List ℕ × Tree)
put [] key t = (key, t) ∷ []
put (p ∷ ps) key t = if bytes_eq key p.0 then (p.0, t) ∷ ps else p ∷ put ps key t

-- pairs as a list
abbrev pub pair_list : Pairs → List (List ℕ × Tree)
pair_list no_pairs = []
pair_list (a_pair k t ps) = (k, t) ∷ pair_list ps

-- the value under a key of a map
abbrev pub member : Tree → List ℕ → Option Tree
member null key = None
member (truth b) key = None
member (number n) key = None
member (text s) key = None
member (list ts) key = None
member (mapping ps) key = value_at (pair_list ps) key

-- the tree at a place of a list
abbrev pub item : Tree → ℕ → Option Tree
item null place = None
item (truth b) place = None
item (number n) place = None
item (text s) place = None
item (list ts) place = slice_get (tree_list ts) place
item (mapping ps) place = None
