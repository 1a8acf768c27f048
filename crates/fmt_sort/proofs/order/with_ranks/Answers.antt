use Rattle.std.proofs.Common.{refl}
use Rattle.fmt_sort.specs.Spec.{wish_of}
use Rattle.fmt_sort.proofs.RankedLemmas.{ranked_pushed}
use Rattle.fmt_sort.proofs.order.with_ranks.Goals as goal

pub loop-place-preserved : goal.loop-place-preserved
loop-place-preserved c =
    ranked_pushed (wish_of c.args.spec.now) c.args.formats.now c.loop-place.place c.loop-place.ranked.items c.push.new.self.items
    record { ranks = c.in_ok-ranks.ranks; place = c.loop-place.place } c.index-formats-place.result c.loop-place.invariant c.in_ok-push.ensures.items refl
    c.in_ok-ranks.ensures c.index-formats-place.is
