use Rattle.std.proofs.Common.{◌≡◌, ◌++◌, take, map, fold}
use Rattle.sel_eval.specs.Keep.{kept_with}
use Rattle.sel_eval.proofs.merging.add_rows.Given as goal

abbrev pub invariant-loop-choice : goal.invariant-loop-choice
invariant-loop-choice l = l.all.items ≡ l.initial.all.items ++ map (fold (kept_with l.streams) l.fn.row) (take l.choice-index l.others)
