use Rattle.info_tree.proofs.PairLemmas.{pair_list-pairs_of}
use Rattle.info_tree.proofs.tree.Tree.get.Goals as goal

pub returns-in-Map : goal.returns-in-Map
returns-in-Map c =
    rw c.in-Map.is (rw (pair_list-pairs_of c.in-Map.map) c.get.ensures.value)
