use Rattle.std.proofs.Common.{◌≡◌, ◌+◌, ◌*◌, take}
use Rattle.info_tree.specs.Tree.{trees_of, pairs_of, tree_size, trees_size, pairs_size}
use Rattle.info_tree.specs.Plain.{plain}
use Rattle.info_tree.proofs.+copy.Given as goal

abbrev pub decreases-tree::Tree::copy : goal.decreases-tree::Tree::copy
decreases-tree::Tree::copy l = 2 * tree_size (plain l.self.now)

abbrev pub decreases-copy::copy_list : goal.decreases-copy::copy_list
decreases-copy::copy_list l = 2 * trees_size (trees_of l.list.now) + 1

abbrev pub decreases-copy::copy_map : goal.decreases-copy::copy_map
decreases-copy::copy_map l = 2 * pairs_size (pairs_of l.map.now) + 1

-- the items before this place are copied
abbrev pub invariant-copy::copy_list-loop-place : goal.invariant-copy::copy_list-loop-place
invariant-copy::copy_list-loop-place l = l.copied ≡ take l.place l.list

-- the pairs before this place are copied
abbrev pub invariant-copy::copy_map-loop-place : goal.invariant-copy::copy_map-loop-place
invariant-copy::copy_map-loop-place l = l.copied ≡ take l.place l.map
