use Rattle.std.proofs.Common.{◌≡◌, drop}
use Rattle.text_base.specs.Number.{number_of}
use Rattle.tpl_eval.specs.Value as spec
use Rattle.tpl_eval.proofs.value.calculated.Given as goal

-- what is left of the operations, on the number so far, gives the whole
abbrev pub invariant-loop-operation : goal.invariant-loop-operation
invariant-loop-operation g l =
    spec.calculated (g.V.Values.tree l.values) (drop l.operation-index l.operations) (number_of l.left) ≡ spec.calculated (g.V.Values.tree l.values) l.operations (number_of l.fn.first)
