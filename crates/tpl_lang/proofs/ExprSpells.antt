-- An expression that is taken is spelled so.
use Rattle.std.proofs.Common.{◌≡◌, ℕ, ◌+◌, ◌-◌, ◌<◌, ◌≤◌, Bool, true, false, cond, eqb, List, [], ◌∷◌, ◌++◌, length, take, drop, Option, Some, None, Ok, refl, sym, ap, subst, ◌∙◌, append_assoc, arith, inl, inr}
use Rattle.std.specs.List.{prefix_len}
use Rattle.std.proofs.lemmas.Bool.{eqb-true, eqb-false}
use Rattle.std.proofs.lemmas.List.{take-append-drop, length-take, length-drop}
use Rattle.std.proofs.lemmas.List.Sums.{prefix_len-le-length}
use Rattle.text_base.specs.Spelling.{is_digit}
use Rattle.text_base.specs.Size.{size_of}
use Rattle.read_base.specs.Reads.{◌>>=◌, is_at, run_at, all_at}
use Rattle.read_base.proofs.StepLemmas.{bind_ok, ok_is, chosen, marked}
use Rattle.tpl_lang.specs.declared.tpl_kind.TplKind.{TplKind}
use Rattle.tpl_lang.specs.declared.tpl_kind.TplKind.TheVariants as kinds
use Rattle.tpl_lang.specs.declared.expr.Op.{Op}
use Rattle.tpl_lang.specs.declared.expr.Operand.{Operand}
use Rattle.tpl_lang.specs.declared.expr.Operand.TheVariants as operands
use Rattle.tpl_lang.specs.declared.expr.Operation.{Operation}
use Rattle.tpl_lang.specs.declared.date_format.DatePart.{DatePart}
use Rattle.tpl_lang.specs.declared.date_format.DatePart.TheVariants as dates
use Rattle.tpl_lang.specs.declared.date_format.Directive.{Directive}
use Rattle.tpl_lang.specs.declared.scan.Class.TheVariants.{DateText}
use Rattle.tpl_lang.specs.Bytes.{is_word_byte, in_class}
use Rattle.tpl_lang.specs.Exprs.{ExprView}
use Rattle.tpl_lang.specs.Paths.{PathView}
use Rattle.tpl_lang.specs.Keys.{word_at, path_behind, path_at}
use Rattle.tpl_lang.specs.ExprReading.{has_decimals, point_length, number_length, operand_at, operator_of, is_operator, operation_by, operation_at, first_directive, directive_by, in_date, date_part_at, date_format_at, expr_at, exprs_at}
use Rattle.tpl_lang.specs.Spelled.{Follows, IsSomeRun, IsPathBehind, IsOperand, IsOperation, IsDatePart, IsDateFormat, IsExpr, IsExprs}
use Rattle.tpl_lang.proofs.SpellsLemmas.{TakesSo, SpellsSo, SpellsAt, end_spells, follows_spells, all_spells, list_spells, some_run_spells}
use Rattle.tpl_lang.proofs.PathSpells.{word_spells, path_behind_spells, path_spells}

-- ---- operands

number_by : (n k : ℕ) (v w z : Bool) (t : List ℕ) → n ≤ length t → k ≤ length t - n → cond v 0 (cond w n (cond z 0 (n + k))) ≤ length t
number_by n k true w z t h le = omega arith
number_by n k false true z t h le = h
number_by n k false false true t h le = omega arith
number_by n k false false false t h le = omega (arith, h, le)

point_by : (k : ℕ) (v : Bool) (t : List ℕ) → (v ≡ true → 1 + k ≤ length t) → cond v (1 + k) 0 ≤ length t
point_by k true t h = h refl
point_by k false t h = omega arith

point_short : (t : List ℕ) → point_length t ≤ length t
point_short [] = omega arith
point_short (b ∷ t) = point_by (prefix_len is_digit t) (has_decimals t) (b ∷ t) (λ h. omega (arith, prefix_len-le-length is_digit t))

pub number_short : (t : List ℕ) → number_length t ≤ length t
number_short t =
    let n = prefix_len is_digit t in
    number_by n (point_length (drop n t)) _ _ _ t (prefix_len-le-length is_digit t) (omega (arith, point_short (drop n t), length-drop n t))

pub operand_spells : SpellsSo operand_at IsOperand
unfolding operand_at
operand_spells t p e =
    let n = number_length t in
    elim (chosen (eqb n 0) _ _ _ e) [
      | inl h ↦
          let a = bind_ok (word_at t) (λ word. path_behind word.0 word.1 >>= λ path. Ok (operands.Path path.0, path.1)) p h.1 in
          let b = bind_ok (path_behind a.0.0 a.0.1) (λ path. Ok (operands.Path path.0, path.1)) p a.2 in
          let word = word_spells t a.0 a.1 in
          let path = path_behind_spells a.0.0 a.0.1 b.0 b.1 in
          let parts : t ≡ (word.0 ++ path.0) ++ b.0.1 = word.2 ∙ ap (λ (l : List ℕ). word.0 ++ l) path.2 ∙ sym (append_assoc word.0 path.0 b.0.1) in
          let made : Operand × List ℕ = (operands.Path b.0.0, b.0.1) in
          let both : Follows (IsSomeRun is_word_byte) IsPathBehind (word.0 ++ path.0) b.0.1 b.0.0 = (word.0, path.0, a.0.0, subst (λ (l : List ℕ). IsSomeRun is_word_byte word.0 l a.0.0) path.2 word.1, path.1, refl) in
          let taken : TakesSo IsOperand t made = (word.0 ++ path.0, inr (ap number_length (sym parts) ∙ eqb-true n 0 h.0, b.0.0, both, refl), parts) in
          subst (λ (q : Operand × List ℕ). TakesSo IsOperand t q) (ok_is {K = TplKind} made p b.2) taken
      | inr h ↦
          let made : Operand × List ℕ = (operands.Number (size_of 1000 (take n t)), drop n t) in
          let len : length (take n t) ≡ n = omega (arith, length-take n t, number_short t) in
          let taken : TakesSo IsOperand t made = (take n t, inl (ap number_length (take-append-drop n t) ∙ sym len, omega (arith, len, eqb-false _ _ h.0), refl), sym (take-append-drop n t)) in
          subst (λ (q : Operand × List ℕ). TakesSo IsOperand t q) (ok_is {K = TplKind} made p h.1) taken
    ]

-- ---- operations

operator_alone : (b : ℕ) (t : List ℕ) → operator_of (b ∷ t) ≡ operator_of (b ∷ [])
operator_alone b t = refl

operation_from : (o : Option Op) (t : List ℕ) (p : Operation × List ℕ) → operator_of t ≡ o → operation_by o t ≡ Ok p → TakesSo IsOperation t p
operation_from None t p h e = absurd cc
operation_from (Some op) [] p h e = absurd cc
operation_from (Some op) (b ∷ u) p h e =
    let a = bind_ok (operand_at u) (λ operand. Ok (record { op = op; operand = operand.0 }, operand.1)) p e in
    let one = operand_spells u a.0 a.1 in
    let made : Operation × List ℕ = (record { op = op; operand = a.0.0 }, a.0.1) in
    let taken : TakesSo IsOperation (b ∷ u) made = (b ∷ one.0, (b, h, (one.0, one.1, refl)), ap (λ (l : List ℕ). b ∷ l) one.2) in
    subst (λ (q : Operation × List ℕ). TakesSo IsOperation (b ∷ u) q) (ok_is {K = TplKind} made p a.2) taken

pub operation_spells : SpellsAt is_operator operation_at IsOperation
unfolding operation_at
operation_spells t p here e = operation_from (operator_of t) t p refl e

pub operation_some : (s r : List ℕ) (x : Operation) → IsOperation s r x → 0 < length s
operation_some s r x h = omega (arith, ap length h.2.2)

-- ---- date formats

directive_from : (o : Option Directive) (left : ℕ) (t u : List ℕ) (p : DatePart × List ℕ) → t ≡ 37 ∷ u → first_directive u ≡ o → directive_by left u o ≡ Ok p → TakesSo IsDatePart t p
directive_from None left t [] p parts h e = absurd cc
directive_from None left t (b ∷ u) p parts h e = absurd cc
directive_from (Some d) left t [] p parts h e = absurd cc
directive_from (Some d) left t (b ∷ u) p parts h e =
    let made : DatePart × List ℕ = (dates.Directive d, u) in
    let taken : TakesSo IsDatePart t made = (37 ∷ b ∷ [], (b, h, refl), parts) in
    subst (λ (q : DatePart × List ℕ). TakesSo IsDatePart t q) (ok_is {K = TplKind} made p e) taken

pub date_part_spells : SpellsSo date_part_at IsDatePart
unfolding date_part_at
date_part_spells t p e = elim (chosen (is_at 37 t) _ _ _ e) [
  | inl h ↦ directive_from (first_directive (drop 1 t)) (length t) t (drop 1 t) p (marked 37 t h.0) refl h.1
  | inr h ↦
      let a = bind_ok (run_at kinds.Syntax (in_class DateText) t) (λ run. Ok (dates.Text run.0, run.1)) p h.1 in
      let one = some_run_spells kinds.Syntax (in_class DateText) t a.0 a.1 in
      let made : DatePart × List ℕ = (dates.Text a.0.0, a.0.1) in
      let taken : TakesSo IsDatePart t made = (one.0, one.1, one.2) in
      subst (λ (q : DatePart × List ℕ). TakesSo IsDatePart t q) (ok_is {K = TplKind} made p a.2) taken
]

pub date_part_some : (s r : List ℕ) (x : DatePart) → IsDatePart s r x → 0 < length s
date_part_some s r (dates.Text run) h = h.0
date_part_some s r (dates.Directive d) h = omega (arith, ap length h.2)

date_format_spells : SpellsSo date_format_at IsDateFormat
unfolding date_format_at
date_format_spells t p e = elim (chosen (is_at 62 t) _ _ _ e) [
  | inl h ↦
      let a = bind_ok (all_at in_date date_part_at (drop 1 t)) (λ parts. Ok (Some parts.0, parts.1)) p h.1 in
      let one = all_spells in_date date_part_at IsDatePart refl date_part_some (λ t p here e. date_part_spells t p e) (drop 1 t) a.0 a.1 in
      let made : Option (List DatePart) × List ℕ = (Some a.0.0, a.0.1) in
      let taken : TakesSo IsDateFormat t made = (62 ∷ one.0, (one.0, one.1, refl), marked 62 t h.0 ∙ ap (λ (l : List ℕ). 62 ∷ l) one.2) in
      subst (λ (q : Option (List DatePart) × List ℕ). TakesSo IsDateFormat t q) (ok_is {K = TplKind} made p a.2) taken
  | inr h ↦
      let made : Option (List DatePart) × List ℕ = (None, t) in
      let taken : TakesSo IsDateFormat t made = ([], (refl, h.0), refl) in
      subst (λ (q : Option (List DatePart) × List ℕ). TakesSo IsDateFormat t q) (ok_is {K = TplKind} made p h.1) taken
]

-- ---- expressions

abbrev pub view_of : PathView → List Operation → Option (List DatePart) → ExprView
view_of path operations date = record { path = path; operations = operations; date_format = date }

pub expr_spells : SpellsSo expr_at IsExpr
unfolding expr_at
expr_spells =
    follows_spells path_at (λ path r. all_at is_operator operation_at r >>= λ operations. date_format_at operations.1 >>= λ date. Ok (view_of path operations.0 date.0, date.1)) _ _ path_spells
    (λ path. follows_spells (all_at is_operator operation_at) (λ operations r. date_format_at r >>= λ date. Ok (view_of path operations date.0, date.1)) _ _ (all_spells is_operator operation_at IsOperation refl operation_some operation_spells)
    (λ operations. follows_spells date_format_at (λ date r. Ok (view_of path operations date, r)) _ _ date_format_spells (λ date. end_spells (view_of path operations date))))

pub exprs_spells : SpellsSo exprs_at IsExprs
unfolding exprs_at
exprs_spells = follows_spells expr_at (λ first r. all_at (is_at 44) (λ u. expr_at (drop 1 u)) r >>= λ others. Ok (first ∷ others.0, others.1)) _ _ expr_spells
    (λ first. follows_spells (all_at (is_at 44) (λ u. expr_at (drop 1 u))) (λ others r. Ok (first ∷ others, r)) _ _ (list_spells 44 expr_at IsExpr expr_spells) (λ others. end_spells (first ∷ others)))
