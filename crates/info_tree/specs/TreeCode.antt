-- How the logic stores a tree: a code that gives the tree back.
use Rattle.std.specs.Prelude.{◌≡◌, ℕ, zero, suc, List, [], ◌∷◌, true, false, pos, negsuc, refl}
use Rattle.text_base.specs.Number.{whole, decimal}
use Rattle.std.specs.Coded.{Coded, coded_list, coded×, coded_ℕ}
use Rattle.std.proofs.Common.{sym, ap, ◌∙◌}
use base.Stored.{Gv, gnil, gnum, gcons}
use Rattle.info_tree.specs.Tree.{Tree, null, truth, number, text, list, mapping, Trees, no_trees, a_tree, Pairs, no_pairs, a_pair}

-- the code of a text: its bytes in order
abbrev bytes_code : List ℕ → Gv
bytes_code [] = gnil
bytes_code (n ∷ ns) = gcons (gnum n) (bytes_code ns)

-- the number that a code is
abbrev num_of : Gv → ℕ
num_of gnil = 0
num_of (gnum n) = n
num_of (gcons a b) = 0

-- the text of a code
abbrev bytes_from : Gv → List ℕ
bytes_from gnil = []
bytes_from (gnum n) = []
bytes_from (gcons a b) = num_of a ∷ bytes_from b

-- the code of a text gives it back
bytes_back : (ns : List ℕ) → bytes_from (bytes_code ns) ≡ ns
bytes_back [] = refl
bytes_back (n ∷ ns) = λ i. n ∷ bytes_back ns i

-- The code of a tree: null is the empty code, and each other variant has a number in front.
abbrev mutual
  tree_code : Tree → Gv
  tree_code null = gnil
  tree_code (truth true) = gcons (gnum 0) gnil
  tree_code (truth false) = gcons (gnum 1) gnil
  tree_code (number (whole (pos n))) = gcons (gnum 2) (gnum n)
  tree_code (number (whole (negsuc n))) = gcons (gnum 3) (gnum n)
  tree_code (number (decimal (pos n))) = gcons (gnum 4) (gnum n)
  tree_code (number (decimal (negsuc n))) = gcons (gnum 5) (gnum n)
  tree_code (text s) = gcons (gnum 6) (bytes_code s)
  tree_code (list ts) = gcons (gnum 7) (trees_code ts)
  tree_code (mapping ps) = gcons (gnum 8) (pairs_code ps)

  trees_code : Trees → Gv
  trees_code no_trees = gnil
  trees_code (a_tree t ts) = gcons (tree_code t) (trees_code ts)

  pairs_code : Pairs → Gv
  pairs_code no_pairs = gnil
  pairs_code (a_pair k t ps) = gcons (bytes_code k) (gcons (tree_code t) (pairs_code ps))

-- what a code may stand for: a tree, trees, pairs, or a tree before pairs
record Read : Type 0 where
  as_tree : Tree
  as_trees : Trees
  as_pairs : Pairs
  in_front : Tree × Pairs

-- the tree of a code, by the number in front
abbrev tree_by : ℕ → Gv → Read → Tree
tree_by zero g r = truth true
tree_by (suc zero) g r = truth false
tree_by (suc (suc zero)) g r = number (whole (pos (num_of g)))
tree_by (suc (suc (suc zero))) g r = number (whole (negsuc (num_of g)))
tree_by (suc (suc (suc (suc zero)))) g r = number (decimal (pos (num_of g)))
tree_by (suc (suc (suc (suc (suc zero))))) g r = number (decimal (negsuc (num_of g)))
tree_by (suc (suc (suc (suc (suc (suc zero)))))) g r = text (bytes_from g)
tree_by (suc (suc (suc (suc (suc (suc (suc zero))))))) g r = list r.as_trees
tree_by (suc (suc (suc (suc (suc (suc (suc (suc n)))))))) g r = mapping r.as_pairs

-- what a code stands for, in each of the four ways
abbrev read_code : Gv → Read
read_code gnil = record { as_tree = null; as_trees = no_trees; as_pairs = no_pairs; in_front = (null, no_pairs) }
read_code (gnum n) = record { as_tree = null; as_trees = no_trees; as_pairs = no_pairs; in_front = (null, no_pairs) }
read_code (gcons a b) = record {
  as_tree = tree_by (num_of a) b (read_code b);
  as_trees = a_tree (read_code a).as_tree (read_code b).as_trees;
  as_pairs = a_pair (bytes_from a) (read_code b).in_front.0 (read_code b).in_front.1;
  in_front = ((read_code a).as_tree, (read_code b).as_pairs);
}

-- The code of a tree gives it back.
mutual
  tree_back : (t : Tree) → (read_code (tree_code t)).as_tree ≡ t
  tree_back null = refl
  tree_back (truth true) = refl
  tree_back (truth false) = refl
  tree_back (number (whole (pos n))) = refl
  tree_back (number (whole (negsuc n))) = refl
  tree_back (number (decimal (pos n))) = refl
  tree_back (number (decimal (negsuc n))) = refl
  tree_back (text s) = ap text (bytes_back s)
  tree_back (list ts) = ap list (trees_back ts)
  tree_back (mapping ps) = ap mapping (pairs_back ps)

  trees_back : (ts : Trees) → (read_code (trees_code ts)).as_trees ≡ ts
  trees_back no_trees = refl
  trees_back (a_tree t ts) = λ i. a_tree (tree_back t i) (trees_back ts i)

  pairs_back : (ps : Pairs) → (read_code (pairs_code ps)).as_pairs ≡ ps
  pairs_back no_pairs = refl
  pairs_back (a_pair k t ps) = λ i. a_pair (bytes_back k i) (tree_back t i) (pairs_back ps i)

-- how a tree is stored
pub coded_tree : Coded Tree
coded_tree = record {
  code = tree_code;
  inj = λ x y p. sym (tree_back x) ∙ ap (λ g. (read_code g).as_tree) p ∙ tree_back y;
}

-- how a list of trees is stored
abbrev pub coded_trees : Coded (List Tree)
coded_trees = coded_list coded_tree

-- how a list of pairs is stored
abbrev pub coded_pairs : Coded (List (List ℕ × Tree))
coded_pairs = coded_list (coded× (coded_list coded_ℕ) coded_tree)
