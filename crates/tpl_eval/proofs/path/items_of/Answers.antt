use Rattle.info_tree.specs.Plain.{plain}
use Rattle.tpl_eval.proofs.PathLemmas.{seen_more}
use Rattle.tpl_eval.proofs.path.items_of.Goals as goal

pub loop-place-preserved : goal.loop-place-preserved
loop-place-preserved c = rw c.in_ok-push.ensures.items
    (seen_more (λ t. plain t.now) c.loop-place.items.items c.item.result c.args.list.now c.loop-place.place c.loop-place.invariant c.item.ensures)
