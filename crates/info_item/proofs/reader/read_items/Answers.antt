use Rattle.info_tree.proofs.PairLemmas.{tree_list-trees_of}
use Rattle.info_item.proofs.reader.read_items.Goals as goal

pub returns-in-List-clause-items : goal.returns-in-List-clause-items
returns-in-List-clause-items c = rw (c.in-List.is, tree_list-trees_of c.in-List.list) c.read_list.ensures.items

pub returns-in-List-clause-fault : goal.returns-in-List-clause-fault
returns-in-List-clause-fault c = rw (c.in-List.is, tree_list-trees_of c.in-List.list) c.read_list.ensures.fault
