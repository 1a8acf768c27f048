-- What contracts see of an expression.
use Rattle.std.specs.Prelude.{List, Option}
use Rattle.tpl_lang.specs.Paths.{PathView}
use Rattle.tpl_lang.specs.declared.date_format.DatePart.{DatePart}
use Rattle.tpl_lang.specs.declared.expr.Operation.{Operation}

-- a path, the operations on its value from the left, and the parts of the date format
pub record ExprView : Type 0 where
  pub path : PathView
  pub operations : List Operation
  pub date_format : Option (List DatePart)
