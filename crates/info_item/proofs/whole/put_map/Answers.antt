use Rattle.info_tree.proofs.PairLemmas.{pair_list-pairs_of}
use Rattle.info_item.proofs.whole.put_map.Goals as goal

pub returns-in-Map : goal.returns-in-Map
returns-in-Map c = rw (c.in-Map.is, pair_list-pairs_of c.in-Map.more) c.put_all.ensures.over
