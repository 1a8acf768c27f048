use Rattle.std.proofs.Common.{◌≡◌, ◌++◌, drop}
use Rattle.tpl_eval.specs.Slice.{every}
use Rattle.tpl_eval.proofs.slice.every.Given as goal

-- what is kept, with what is kept of the rest
abbrev pub invariant-loop-item : goal.invariant-loop-item
invariant-loop-item g l = every l.gap 0 l.items ≡ l.kept.items ++ every l.gap l.wait (drop l.item-index l.items)
