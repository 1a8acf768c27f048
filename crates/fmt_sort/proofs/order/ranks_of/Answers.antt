use Rattle.std.proofs.Common.{◌∙◌, ap}
use Rattle.fmt_sort.specs.Order.{rank_in}
use Rattle.fmt_sort.specs.Spec.{wanted_of}
use Rattle.fmt_sort.specs.ValueParts.{plain_rank}
use Rattle.fmt_sort.proofs.OrderLemmas.{rank_pushed}
use Rattle.fmt_sort.proofs.order.ranks_of.Goals as goal

pub loop-field-preserved : goal.loop-field-preserved
loop-field-preserved c =
    let s = c.args.spec.now in
    let e = c.deref-field-items.ensures.value in
    let l = rw e at c.loop-field-test.true in
    let i = rw e at c.field-item.is in
    rank_pushed wanted_of (rank_in s.free c.args.format.now) plain_rank s.fields.items c.loop-field.field-index c.field-item.result c.loop-field.ranks.items c.push.new.self.items
    c.rank_in.result l c.loop-field.invariant c.in_ok-push.ensures.items (c.rank_in.ensures ∙ ap (λ w. rank_in s.free c.args.format.now (wanted_of w)) i)
