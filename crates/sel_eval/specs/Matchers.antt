-- What compares texts, as contracts see it.
use Rattle.std.specs.Prelude.{ℕ, List}
use Rattle.sel_lang.specs.declared.filter.TextOp.{TextOp}
use Rattle.sel_lang.specs.declared.filter.TextOp.TheVariants as ops
use Rattle.sel_eval.specs.declared.matcher.Matcher.{Matcher}
use Rattle.sel_eval.specs.declared.matcher.Matcher.TheVariants as matchers

-- how a matcher compares
abbrev pub matcher_op : Matcher → TextOp
matcher_op (matchers.Eq value) = ops.Eq
matcher_op (matchers.Prefix value) = ops.Prefix
matcher_op (matchers.Suffix value) = ops.Suffix
matcher_op (matchers.Contains finder) = ops.Contains
matcher_op (matchers.Matches finder) = ops.Matches

-- what a matcher compares with
abbrev pub matcher_value : Matcher → List ℕ
matcher_value (matchers.Eq value) = value.now
matcher_value (matchers.Prefix value) = value.now
matcher_value (matchers.Suffix value) = value.now
matcher_value (matchers.Contains finder) = finder
matcher_value (matchers.Matches finder) = finder
