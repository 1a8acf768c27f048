use Rattle.std.proofs.Common.{◌∙◌, sym, ap}
use Rattle.fmt_sort.specs.Order.{rank_in}
use Rattle.fmt_sort.specs.Rank as rank
use Rattle.fmt_sort.specs.Spec.{wanted_of}
use Rattle.fmt_sort.proofs.OrderLemmas.{decided, undecided}
use Rattle.fmt_sort.proofs.order.rank_cmp.Goals as goal

pub returns-then-is_ne : goal.returns-then-is_ne
returns-then-is_ne c =
    let s = c.args.spec.now in
    let e = c.deref-field-items.ensures.value in
    let l = rw e at c.loop-field-test.true in
    let i = rw e at c.field-item.is in
    let o = c.compared-order.ensures ∙ (λ k. rank.rank_cmp (c.rank_in.ensures k) (c.rank_in-in-loop-field.ensures k)) in
    let p = o ∙ ap (λ w. rank.rank_cmp (rank_in s.free c.args.a.now (wanted_of w)) (rank_in s.free c.args.b.now (wanted_of w))) i in
    decided rank.rank_cmp wanted_of (rank_in s.free c.args.a.now) (rank_in s.free c.args.b.now) s.fields.items c.loop-field.field-index c.field-item.result _ _ l c.loop-field.invariant p
    (sym c.is_ne.ensures ∙ c.if-is_ne.true)

pub loop-field-preserved : goal.loop-field-preserved
loop-field-preserved c =
    let s = c.args.spec.now in
    let e = c.deref-field-items.ensures.value in
    let l = rw e at c.loop-field-test.true in
    let i = rw e at c.field-item.is in
    let o = c.compared-order.ensures ∙ (λ k. rank.rank_cmp (c.rank_in.ensures k) (c.rank_in-in-loop-field.ensures k)) in
    let p = o ∙ ap (λ w. rank.rank_cmp (rank_in s.free c.args.a.now (wanted_of w)) (rank_in s.free c.args.b.now (wanted_of w))) i in
    undecided rank.rank_cmp wanted_of (rank_in s.free c.args.a.now) (rank_in s.free c.args.b.now) s.fields.items c.loop-field.field-index c.field-item.result _ _ l c.loop-field.invariant p
    (sym c.is_ne.ensures ∙ c.if-is_ne.false)
