use Rattle.std.proofs.Common.{◌≤◌}
use Rattle.sel_lang.specs.declared.sel.Sel.{size-Sel}
use Rattle.sel_lang.proofs.sel.Sel.+drop.Given as goal

-- what is left is no deeper than the whole
abbrev pub invariant-loop-self : goal.invariant-loop-self
invariant-loop-self l = size-Sel l.self ≤ size-Sel l.fn.self
