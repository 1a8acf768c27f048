use Rattle.info_tree.specs.Plain.{plain}
use Rattle.info_item.proofs.CopyLemmas.{map-is}
use Rattle.info_item.proofs.whole.copy_map.Goals as goal

pub returns-in-Map : goal.returns-in-Map
returns-in-Map c = map-is c.in-Map.pairs (plain c.args.tree.now) (rw c.in-Map.is at c.in_ok-pairs.ensures)
