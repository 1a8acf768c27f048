use Rattle.sel_eval.proofs.picking.ranked.Goals as goal

pub returns-then-worst : goal.returns-then-worst
returns-then-worst c = rw (c.if-worst.true, ← c.nth_worst.ensures) c.at_most_one.ensures

pub returns-else-worst : goal.returns-else-worst
returns-else-worst c = rw (c.if-worst.false, ← c.nth_best.ensures) c.at_most_one-else-worst.ensures
