use Rattle.std.proofs.Common.{◌≡◌, ◌++◌}
use Rattle.std.specs.Vec.Iter.{into_iter_items}
use Rattle.sel_eval.specs.Merging.{spread}
use Rattle.sel_eval.proofs.merging.spread.Given as goal

-- with the rows that are left it is what it is to be
abbrev pub invariant-loop-row : goal.invariant-loop-row
invariant-loop-row l =
    l.all.items ++ spread l.streams (into_iter_items l.row-iterator) l.choices ≡ spread l.streams (into_iter_items l.initial.row-iterator) l.choices
