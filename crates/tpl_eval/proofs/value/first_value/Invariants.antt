use Rattle.std.proofs.Common.{◌≡◌, drop}
use Rattle.tpl_eval.specs.Value as spec
use Rattle.tpl_eval.proofs.value.first_value.Given as goal

-- none of the expressions so far has a value
abbrev pub invariant-loop-expr : goal.invariant-loop-expr
invariant-loop-expr g l = spec.first_value (g.V.Values.tree l.values) (drop l.expr-index l.exprs) ≡ spec.first_value (g.V.Values.tree l.values) l.exprs
