use Rattle.info_item.proofs.CopyLemmas.{over-step}
use Rattle.info_item.proofs.whole.put_all.Goals as goal

pub loop-place-preserved : goal.loop-place-preserved
loop-place-preserved c =
    over-step c.loop-place.pairs c.put.new.pairs c.loop-place.place c.args.more.now _ _ _ _ c.pair_at.ensures c.in_ok-copy.ensures c.in_ok-put.ensures.ok c.loop-place.invariant
