use Rattle.std.proofs.Common.{◌∙◌}
use Rattle.info_tree.specs.Plain.{plain}
use Rattle.info_tree.proofs.PairLemmas.{pair_list-pairs_of}
use Rattle.info_item.specs.View.{map_pairs}
use Rattle.info_item.proofs.LookupLemmas.{over-first, over-rest, member-is}
use Rattle.info_item.proofs.lazy.over_item.Goals as goal

pub returns-in-Some : goal.returns-in-Some
returns-in-Some c =
    rw (c.in-Map.is, pair_list-pairs_of c.in-Map.pairs)
    (over-first c.args.key.now (map_pairs (plain c.args.item.now)) c.in-Map.pairs c.get.ensures.distinct (plain c.in-Some.value.now) c.in-Some.ensures.value)

pub returns-in-None : goal.returns-in-None
returns-in-None c =
    rw (c.in-Map.is, pair_list-pairs_of c.in-Map.pairs)
    (c.get-in-None.ensures ∙ member-is (plain c.args.item.now) c.args.key.now
    ∙ over-rest c.args.key.now (map_pairs (plain c.args.item.now)) c.in-Map.pairs c.get.ensures.distinct c.in-None.ensures.value)
