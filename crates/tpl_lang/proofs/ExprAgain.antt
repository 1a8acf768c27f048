-- An expression that is spelled so is taken.
use Rattle.std.proofs.Common.{◌≡◌, ℕ, eqb, List, ◌∷◌, ◌++◌, length, take, drop, Option, Some, None, Result, Ok, refl, sym, ap, ◌∙◌, arith, inl, inr}
use Rattle.text_base.specs.Size.{size_of}
use Rattle.read_base.specs.Reads.{◌>>=◌, is_at, run_at, all_at}
use Rattle.tpl_lang.specs.declared.tpl_kind.TplKind.{TplKind}
use Rattle.tpl_lang.specs.declared.tpl_kind.TplKind.TheVariants as kinds
use Rattle.tpl_lang.specs.declared.expr.Op.{Op}
use Rattle.tpl_lang.specs.declared.expr.Operand.{Operand}
use Rattle.tpl_lang.specs.declared.expr.Operand.TheVariants as operands
use Rattle.tpl_lang.specs.declared.expr.Operation.{Operation}
use Rattle.tpl_lang.specs.declared.date_format.DatePart.{DatePart}
use Rattle.tpl_lang.specs.declared.date_format.DatePart.TheVariants as dates
use Rattle.tpl_lang.specs.declared.date_format.Directive.{Directive}
use Rattle.tpl_lang.specs.declared.scan.Class.TheVariants.{DateText}
use Rattle.tpl_lang.specs.Bytes.{in_class}
use Rattle.tpl_lang.specs.Paths.{PathView}
use Rattle.tpl_lang.specs.Keys.{word_at, path_behind, path_at}
use Rattle.tpl_lang.specs.ExprReading.{number_length, operand_at, operator_of, is_operator, operation_by, operation_at, directive_by, directive_at, in_date, date_part_at, date_format_at, expr_at, exprs_at}
use Rattle.tpl_lang.specs.Spelled.{IsOperand, IsOperation, IsDatePart, IsDateFormat, IsExpr, IsExprs}
use Rattle.std.proofs.lemmas.Bool.{ne_eqb}
use Rattle.std.proofs.lemmas.List.{take_at, drop_at}
use Rattle.tpl_lang.proofs.ExprSpells.{operation_some, date_part_some, view_of}
use Rattle.tpl_lang.proofs.AgainLemmas.{AgainSo, taken, cond_yes, cond_no, step_on, front_moved, run_no_mark, end_again, follows_again, all_again, list_again, some_run_again}
use Rattle.tpl_lang.proofs.PathAgain.{word_again, path_behind_again, path_again}

-- ---- operands

abbrev number_cut : ℕ → List ℕ → Result (Operand × List ℕ) (TplKind × ℕ)
number_cut n t = Ok (operands.Number (size_of 1000 (take n t)), drop n t)

number_is : (n : ℕ) (s r : List ℕ) → length s ≡ n → number_cut n (s ++ r) ≡ taken (operands.Number (size_of 1000 s)) r
number_is n s r e = rw (take_at s r n e, drop_at s r n e) refl

abbrev operand_of : PathView × List ℕ → Result (Operand × List ℕ) (TplKind × ℕ)
operand_of path = Ok (operands.Path path.0, path.1)

abbrev path_operand_of : List ℕ × List ℕ → Result (Operand × List ℕ) (TplKind × ℕ)
path_operand_of word = path_behind word.0 word.1 >>= operand_of

abbrev path_operand : List ℕ → Result (Operand × List ℕ) (TplKind × ℕ)
path_operand t = word_at t >>= path_operand_of

pub operand_again : AgainSo operand_at IsOperand
unfolding operand_at
operand_again s r x h = elim h [
  | inl a ↦
      let n = number_length (s ++ r) in
      cond_no (eqb n 0) (path_operand (s ++ r)) (number_cut n (s ++ r)) (ne_eqb n 0 (λ e. omega (arith, e, a.0, a.1))) ∙ number_is n s r (sym a.0) ∙ ap (λ (z : Operand). taken z r) (sym a.2)
  | inr b ↦
      let n = number_length (s ++ r) in
      let f = b.2 in
      let word : word_at (s ++ r) ≡ taken f.2 (f.1 ++ r) = ap word_at (front_moved s f.0 f.1 r f.5) ∙ word_again f.0 (f.1 ++ r) f.2 f.3 in
      cond_yes (eqb n 0) (path_operand (s ++ r)) (number_cut n (s ++ r)) (ap (λ (k : ℕ). eqb k 0) b.0)
      ∙ step_on (word_at (s ++ r)) path_operand_of (f.2, f.1 ++ r) word
      ∙ step_on (path_behind f.2 (f.1 ++ r)) operand_of (b.1, r) (path_behind_again f.2 f.1 r b.1 f.4)
      ∙ ap (λ (z : Operand). taken z r) (sym b.3)
]

-- ---- operations

abbrev operation_of : Op → Operand × List ℕ → Result (Operation × List ℕ) (TplKind × ℕ)
operation_of op operand = Ok (record { op = op; operand = operand.0 }, operand.1)

operation_again : AgainSo operation_at IsOperation
unfolding operation_at
operation_again s r x h =
    let mark = h.0 in
    let inner = h.2.0 in
    ap (λ (l : List ℕ). operation_by (operator_of (l ++ r)) (l ++ r)) h.2.2
    ∙ ap (λ (o : Option Op). operation_by o (mark ∷ (inner ++ r))) h.1
    ∙ step_on (operand_at (inner ++ r)) (operation_of x.op) (x.operand, r) (operand_again inner r x.operand h.2.1)

-- ---- date formats

abbrev text_part : Result (List ℕ × List ℕ) (TplKind × ℕ) → Result (DatePart × List ℕ) (TplKind × ℕ)
text_part z = z >>= λ run. Ok (dates.Text run.0, run.1)

pub date_part_again : AgainSo date_part_at IsDatePart
unfolding date_part_at
date_part_again s r (dates.Directive d) h =
    ap (λ (l : List ℕ). date_part_at (l ++ r)) h.2 ∙ ap (λ (o : Option Directive). directive_by (length (37 ∷ h.0 ∷ r)) (h.0 ∷ r) o) h.1
date_part_again s r (dates.Text run) h =
    cond_no (is_at 37 (s ++ r)) (directive_at (length (s ++ r)) (drop 1 (s ++ r))) (text_part (run_at kinds.Syntax (in_class DateText) (s ++ r))) (run_no_mark (in_class DateText) 37 s r refl h.0 h.1.0)
    ∙ ap text_part (some_run_again kinds.Syntax (in_class DateText) s r run h)

abbrev some_parts : Result (List DatePart × List ℕ) (TplKind × ℕ) → Result (Option (List DatePart) × List ℕ) (TplKind × ℕ)
some_parts z = z >>= λ parts. Ok (Some parts.0, parts.1)

abbrev no_date : List ℕ → Result (Option (List DatePart) × List ℕ) (TplKind × ℕ)
no_date t = Ok (None, t)

date_format_again : AgainSo date_format_at IsDateFormat
unfolding date_format_at
date_format_again s r None h =
    cond_no (is_at 62 (s ++ r)) (some_parts (all_at in_date date_part_at (drop 1 (s ++ r)))) (no_date (s ++ r)) (ap (λ (l : List ℕ). is_at 62 (l ++ r)) h.0 ∙ h.1) ∙ ap (λ (l : List ℕ). no_date (l ++ r)) h.0
date_format_again s r (Some parts) h =
    ap (λ (l : List ℕ). date_format_at (l ++ r)) h.2 ∙ ap some_parts (all_again in_date date_part_at IsDatePart date_part_some date_part_again h.0 r parts h.1)

-- ---- expressions

pub expr_again : AgainSo expr_at IsExpr
unfolding expr_at
expr_again =
    follows_again path_at (λ path r. all_at is_operator operation_at r >>= λ operations. date_format_at operations.1 >>= λ date. Ok (view_of path operations.0 date.0, date.1)) _ _ path_again
    (λ path. follows_again (all_at is_operator operation_at) (λ operations r. date_format_at r >>= λ date. Ok (view_of path operations date.0, date.1)) _ _ (all_again is_operator operation_at IsOperation operation_some operation_again)
    (λ operations. follows_again date_format_at (λ date r. Ok (view_of path operations date, r)) _ _ date_format_again (λ date. end_again (view_of path operations date))))

pub exprs_again : AgainSo exprs_at IsExprs
unfolding exprs_at
exprs_again = follows_again expr_at (λ first r. all_at (is_at 44) (λ u. expr_at (drop 1 u)) r >>= λ others. Ok (first ∷ others.0, others.1)) _ _ expr_again
    (λ first. follows_again (all_at (is_at 44) (λ u. expr_at (drop 1 u))) (λ others r. Ok (first ∷ others, r)) _ _ (list_again 44 expr_at IsExpr expr_again) (λ others. end_again (first ∷ others)))
