use Rattle.std.proofs.Common.{◌∙◌, length}
use Rattle.sel_eval.proofs.OrderLemmas.{order_within}
use Rattle.sel_eval.proofs.PlacedLemmas.{places_more}
use Rattle.sel_eval.proofs.placed.at_places.Goals as goal

pub format_at-format-requires : goal.format_at-format-requires
format_at-format-requires c =
    order_within (length c.args.formats.now) c.args.places.now c.requires c.loop-place.place-index 0 c.loop-place-test.true

pub loop-place-preserved : goal.loop-place-preserved
loop-place-preserved c =
    c.in_ok-push.ensures.items
    ∙ places_more c.args.formats.now c.args.places.now c.loop-place.place-index c.format_at-format.result.now c.loop-place.all.items c.loop-place-test.true
    c.format_at-format.ensures c.loop-place.invariant
