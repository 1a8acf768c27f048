-- A finite tree of null, truth values, numbers, texts, lists, and lists of pairs. A text is the list of its UTF-8 bytes.
use Rattle.std.specs.Prelude.{ℕ, ◌+◌, List, [], ◌∷◌, Bool}
use Rattle.text_base.specs.Number.{Number}

mutual
  -- a JSON value (RFC 8259, 3)
  pub data Tree : Type 0 where
    null : Tree
    truth : Bool → Tree
    number : Number → Tree
    text : List ℕ → Tree
    list : Trees → Tree
    mapping : Pairs → Tree

  -- the values of a list
  pub data Trees : Type 0 where
    no_trees : Trees
    a_tree : Tree → Trees → Trees

  -- the keys and values of a map, in order
  pub data Pairs : Type 0 where
    no_pairs : Pairs
    a_pair : List ℕ → Tree → Pairs → Pairs

-- a list of trees, in the form that a tree has it
abbrev pub trees_of : List Tree → Trees
trees_of [] = no_trees
trees_of (t ∷ ts) = a_tree t (trees_of ts)

-- and back
abbrev pub tree_list : Trees → List Tree
tree_list no_trees = []
tree_list (a_tree t ts) = t ∷ tree_list ts

-- a list of pairs, in the form that a tree has it
abbrev pub pairs_of : List (List ℕ × Tree) → Pairs
pairs_of [] = no_pairs
pairs_of (p ∷ ps) = a_pair p.0 p.1 (pairs_of ps)

-- how many values the tree has
abbrev mutual
  pub tree_size : Tree → ℕ
  tree_size null = 1
  tree_size (truth b) = 1
  tree_size (number n) = 1
  tree_size (text s) = 1
  tree_size (list ts) = trees_size ts + 1
  tree_size (mapping ps) = pairs_size ps + 1

  pub trees_size : Trees → ℕ
  trees_size no_trees = 0
  trees_size (a_tree t ts) = tree_size t + trees_size ts

  pub pairs_size : Pairs → ℕ
  pairs_size no_pairs = 0
  pairs_size (a_pair k t ps) = tree_size t + pairs_size ps
