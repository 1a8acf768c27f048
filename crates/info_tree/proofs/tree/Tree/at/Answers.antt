use Rattle.info_tree.proofs.PairLemmas.{tree_list-trees_of}
use Rattle.info_tree.proofs.tree.Tree.at.Goals as goal

pub returns-in-List : goal.returns-in-List
returns-in-List c =
    rw c.in-List.is (rw (tree_list-trees_of c.in-List.list) c.get.ensures)
