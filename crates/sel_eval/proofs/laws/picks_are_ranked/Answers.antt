use Rattle.sel_eval.specs.Nth.{is_better, is_worse}
use Rattle.sel_eval.proofs.NthLemmas.{nth_is}
use Rattle.sel_eval.proofs.OrderLemmas.{from_best, from_worst}
use Rattle.sel_eval.proofs.laws.picks_are_ranked.Goals as goal

pub returns : goal.returns
returns c = record {
  best = λ left candidate n f.
      nth_is (is_better c.args.order.now.items) candidate _ n f (from_best c.args.item.now.formats c.args.order.now.items c.requires left);
  worst = λ left candidate n f.
      nth_is (is_worse c.args.order.now.items) candidate _ n f (from_worst c.args.item.now.formats c.args.order.now.items c.requires left);
}
