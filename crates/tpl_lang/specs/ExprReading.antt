-- Expressions: a path, operations and a date format.
use Rattle.std.specs.Prelude.{ℕ, ◌+◌, List, [], ◌∷◌, length, take, drop, Bool, false, ◌&&◌, ◌||◌, not, ◌==◌, nat_le, Option, Some, None, is_some, Ok, Err, if◌then◌else◌}
use Rattle.std.specs.List.{prefix_len}
use Rattle.text_base.specs.Spelling.{is_digit}
use Rattle.text_base.specs.Size.{size_of}
use Rattle.read_base.specs.Reads.{Read, ◌>>=◌, is_at, run_at, all_at}
use Rattle.tpl_lang.specs.declared.tpl_kind.TplKind.{TplKind}
use Rattle.tpl_lang.specs.declared.tpl_kind.TplKind.TheVariants as kinds
use Rattle.tpl_lang.specs.declared.expr.Op.{Op}
use Rattle.tpl_lang.specs.declared.expr.Op.TheVariants.{Add, Sub, Mul}
use Rattle.tpl_lang.specs.declared.expr.Operand.{Operand}
use Rattle.tpl_lang.specs.declared.expr.Operand.TheVariants as operands
use Rattle.tpl_lang.specs.declared.expr.Operation.{Operation}
use Rattle.tpl_lang.specs.declared.date_format.DatePart.{DatePart}
use Rattle.tpl_lang.specs.declared.date_format.DatePart.TheVariants as dates
use Rattle.tpl_lang.specs.declared.date_format.Directive.{Directive}
use Rattle.tpl_lang.specs.declared.date_format.Directive.TheVariants.{Year, Month, Day, Hour, Minute, Second, ShortYear, YearDay, Percent}
use Rattle.tpl_lang.specs.declared.scan.Class.TheVariants.{DateText}
use Rattle.tpl_lang.specs.Bytes.{in_class, has_word}
use Rattle.tpl_lang.specs.Keys.{word_at, path_behind, path_at}
use Rattle.tpl_lang.specs.Exprs.{ExprView}

-- whether a key, or a further one, may go on there
abbrev pub key_goes_on : List ℕ → Bool
key_goes_on t = has_word t || is_at 46 t || is_at 58 t

-- whether 1 to 9 digits stand at the front, behind which no key goes on
abbrev pub has_decimals : List ℕ → Bool
has_decimals t = let n = prefix_len is_digit t in nat_le 1 n && nat_le n 9 && not (key_goes_on (drop n t))

-- how far a decimal goes behind its digits: a point and its decimals; else 0, for a path
abbrev pub point_length : List ℕ → ℕ
point_length t = if has_decimals (drop 1 t) then 1 + prefix_len is_digit (drop 1 t) else 0

-- the length of a number at the front; 0 where none stands there, or digits are the word of a path
abbrev pub number_length : List ℕ → ℕ
number_length t =
    let n = prefix_len is_digit t in
    let behind = drop n t in
    if n == 0 || has_word behind then 0
    else if not (is_at 46 behind) then n
    else if point_length behind == 0 then 0
    else n + point_length behind

-- what stands behind an operator: a number, as a size without a unit, or a path
unfoldable pub operand_at : List ℕ → Read TplKind Operand
operand_at t =
    let n = number_length t in
    if n == 0 then (do
      word ← word_at t
      path ← path_behind word.0 word.1
      Ok (operands.Path path.0, path.1))
    else Ok (operands.Number (size_of 1000 (take n t)), drop n t)

-- the operator that stands first, where one does
abbrev pub operator_of : List ℕ → Option Op
operator_of t = if is_at 43 t then Some Add else if is_at 45 t then Some Sub else if is_at 42 t then Some Mul else None

-- whether an operator stands first
abbrev pub is_operator : List ℕ → Bool
is_operator t = is_some (operator_of t)

-- an operation by its operator and what stands behind it
abbrev pub operation_by : Option Op → List ℕ → Read TplKind Operation
operation_by None t = Err (kinds.Syntax, length t)
operation_by (Some op) t = do
  operand ← operand_at (drop 1 t)
  Ok (record { op = op; operand = operand.0 }, operand.1)

-- an operation from its operator on
unfoldable pub operation_at : List ℕ → Read TplKind Operation
operation_at t = operation_by (operator_of t) t

-- the directive of a letter
abbrev pub directive_of : ℕ → Option Directive
directive_of b =
    if b == 89 then Some Year
    else if b == 109 then Some Month
    else if b == 100 then Some Day
    else if b == 72 then Some Hour
    else if b == 77 then Some Minute
    else if b == 83 then Some Second
    else if b == 121 then Some ShortYear
    else if b == 106 then Some YearDay
    else if b == 37 then Some Percent
    else None

-- the directive of the letter that stands first
abbrev pub first_directive : List ℕ → Option Directive
first_directive [] = None
first_directive (b ∷ bs) = directive_of b

-- the directive, where there is one; the fault of an unknown one stands at its `%`, from which so many bytes are left
abbrev pub directive_by : ℕ → List ℕ → Option Directive → Read TplKind DatePart
directive_by left t (Some d) = Ok (dates.Directive d, drop 1 t)
directive_by left [] None = Err (kinds.Syntax, 0)
directive_by left (b ∷ rest) None = Err (kinds.Directive, left)

-- a directive behind its `%`
abbrev pub directive_at : ℕ → List ℕ → Read TplKind DatePart
directive_at left t = directive_by left t (first_directive t)

-- whether a date format goes on: it ends at `,`, `&`, `|` and `)`
abbrev pub in_date : List ℕ → Bool
in_date [] = false
in_date (b ∷ bs) = in_class DateText b || b == 37

-- a piece of a date format
unfoldable pub date_part_at : List ℕ → Read TplKind DatePart
date_part_at t =
    if is_at 37 t then directive_at (length t) (drop 1 t)
    else (do
      run ← run_at kinds.Syntax (in_class DateText) t
      Ok (dates.Text run.0, run.1))

-- a date format from its `>` on, where one stands
unfoldable pub date_format_at : List ℕ → Read TplKind (Option (List DatePart))
date_format_at t = if is_at 62 t then (do
  parts ← all_at in_date date_part_at (drop 1 t)
  Ok (Some parts.0, parts.1)) else Ok (None, t)

-- an expression
unfoldable pub expr_at : List ℕ → Read TplKind ExprView
expr_at t = do
  path ← path_at t
  operations ← all_at is_operator operation_at path.1
  date ← date_format_at operations.1
  Ok (record { path = path.0; operations = operations.0; date_format = date.0 }, date.1)

-- expressions parted by commas
unfoldable pub exprs_at : List ℕ → Read TplKind (List ExprView)
exprs_at t = do
  first ← expr_at t
  others ← all_at (is_at 44) (λ u. expr_at (drop 1 u)) first.1
  Ok (first.0 ∷ others.0, others.1)
