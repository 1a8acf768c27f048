-- The value of an expression, and the first that a field has.
use Rattle.std.specs.Prelude.{List, [], ◌∷◌, Option, Some, None}
use Rattle.std.specs.Option.{option_map, option_and_then, option_or}
use Rattle.text_base.specs.Number.{Number}
use Rattle.text_base.specs.Arithmetic.{sum_of, difference_of, product_of}
use Rattle.info_tree.specs.Tree.{Tree, null, truth, number, text, list, mapping}
use Rattle.info_tree.specs.Scalars.{number_of}
use Rattle.tpl_lang.specs.Exprs.{ExprView}
use Rattle.tpl_lang.specs.declared.date_format.DatePart.{DatePart}
use Rattle.tpl_lang.specs.declared.expr.Op.{Op}
use Rattle.tpl_lang.specs.declared.expr.Op.TheVariants.{Add, Sub, Mul}
use Rattle.tpl_lang.specs.declared.expr.Operand.{Operand}
use Rattle.tpl_lang.specs.declared.expr.Operand.TheVariants.{Number as Constant, Path}
use Rattle.tpl_lang.specs.declared.expr.Operation.{Operation}
use Rattle.tpl_eval.specs.Path.{at_path}
use Rattle.tpl_eval.specs.Dates.{dated}

-- the number that an operand is
abbrev pub operand_of : Tree → Operand → Option Number
operand_of t (Constant n) = n
operand_of t (Path path) = option_and_then number_of (at_path t path)

-- an operator between two numbers, where the result is in range
abbrev pub applied : Op → Number → Number → Option Number
applied Add a b = sum_of a b
applied Sub a b = difference_of a b
applied Mul a b = product_of a b

-- one operation on a number
abbrev pub operated : Tree → Number → Operation → Option Number
operated t n o = option_and_then (applied o.op n) (operand_of t o.operand)

-- operations on a number, from the left
abbrev pub calculated : Tree → List Operation → Number → Option Number
calculated t [] n = Some n
calculated t (o ∷ os) n = option_and_then (calculated t os) (operated t n o)

-- a value behind its operations: one that has any is a number
abbrev pub behind_operations : Tree → List Operation → Tree → Option Tree
behind_operations t [] value = Some value
behind_operations t (o ∷ os) value = option_map number (option_and_then (calculated t (o ∷ os)) (number_of value))

-- a value, or its date where a format asks for that
abbrev pub dated_by : Option (List DatePart) → Tree → Option Tree
dated_by None value = Some value
dated_by (Some format) value = option_map text (dated format value)

-- the value of an expression
abbrev pub value_of : Tree → ExprView → Option Tree
value_of t e = option_and_then (dated_by e.date_format) (option_and_then (behind_operations t e.operations) (at_path t e.path))

-- a value that is not null
abbrev pub not_null : Tree → Option Tree
not_null null = None
not_null (truth b) = Some (truth b)
not_null (number n) = Some (number n)
not_null (text s) = Some (text s)
not_null (list ts) = Some (list ts)
not_null (mapping ps) = Some (mapping ps)

-- the first that is neither absent nor null
abbrev pub first_value : Tree → List ExprView → Option Tree
first_value t [] = None
first_value t (e ∷ es) = option_or (option_and_then not_null (value_of t e)) (first_value t es)
