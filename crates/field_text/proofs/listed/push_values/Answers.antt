use Rattle.info_tree.proofs.PairLemmas.{tree_list-trees_of}
use Rattle.field_text.proofs.listed.push_values.Goals as goal

pub returns-in-List : goal.returns-in-List
returns-in-List c = rw (c.in-List.is, tree_list-trees_of c.in-List.list) c.push_list.ensures
