use Rattle.info_item.proofs.CopyLemmas.{others-step}
use Rattle.info_item.proofs.whole.others.Goals as goal

pub loop-place-preserved : goal.loop-place-preserved
loop-place-preserved c =
    others-step c.loop-place.copied c.put_other.new.pairs c.loop-place.place c.args.pairs.now _ _ c.len-place-end.ensures.distinct c.pair_at.ensures c.loop-place.invariant c.in_ok-put_other.ensures
