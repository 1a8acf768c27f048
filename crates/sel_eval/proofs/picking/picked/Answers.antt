use Rattle.sel_eval.proofs.picking.picked.Goals as goal

pub returns-in-Id : goal.returns-in-Id
returns-in-Id c = rw (c.in-Id.is, ← c.as_str-in-Id.ensures, ← c.with_id.ensures) c.at_most_one-in-Id.ensures

pub returns-in-Ranked : goal.returns-in-Ranked
returns-in-Ranked c = rw c.in-Ranked.is c.ranked.ensures
