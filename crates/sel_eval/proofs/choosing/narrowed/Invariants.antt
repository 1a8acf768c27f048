use Rattle.std.proofs.Common.{◌≤◌}
use Rattle.sel_lang.specs.View.{plain}
use Rattle.sel_lang.specs.declared.sel.Sel.{size-Sel}
use Rattle.sel_eval.specs.Parts.{IsSamePart}
use Rattle.sel_eval.proofs.choosing.narrowed.Given as goal

abbrev pub invariant-loop-sel : goal.invariant-loop-sel
invariant-loop-sel l = record {
  same : IsSamePart (plain l.sel) l.left.items (plain l.initial.sel) l.initial.left.items;
  within : size-Sel l.sel ≤ size-Sel l.initial.sel;
}
