use Rattle.std.proofs.Common.{◌∙◌, ap, refl, map}
use Rattle.fmt_sort.specs.Reading.{put, standing}
use Rattle.fmt_sort.specs.Spec.{wanted_of}
use Rattle.fmt_sort.proofs.ReadingLemmas.{fold_on}
use Rattle.fmt_sort.proofs.field_order.put_standing.Goals as goal

pub loop-key-preserved : goal.loop-key-preserved
loop-key-preserved c =
    fold_on put standing c.args.keys.now c.loop-key.key-index _ _ _ _ _ c.loop-key-test.true c.loop-key.invariant refl
    (c.in_ok-put.ensures ∙ ap (put (map wanted_of c.loop-key.fields.items)) c.standing.ensures)
