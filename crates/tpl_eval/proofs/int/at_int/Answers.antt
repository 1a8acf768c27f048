use Rattle.std.proofs.Common.{◌∙◌, ap, w64}
use Rattle.std.proofs.lemmas.Int.{to_z-of_z}
use Rattle.tpl_eval.specs.Path.{element}
use Rattle.info_tree.proofs.PairLemmas.{pair_list-pairs_of, tree_list-trees_of}
use Rattle.tpl_eval.proofs.int.at_int.Goals as goal

pub returns-in-List : goal.returns-in-List
returns-in-List c =
    let back = to_z-of_z w64 c.args.place c.ranges.place in
    rw (c.in-List.is, tree_list-trees_of c.in-List.list) (c.lend.ensures ∙ c.item_at.ensures ∙ ap (element c.in-List.list) back)

pub returns-in-Map : goal.returns-in-Map
returns-in-Map c = rw (c.in-Map.is, pair_list-pairs_of c.in-Map.map) (c.lend-in-Map.ensures ∙ c.get.ensures.value)
