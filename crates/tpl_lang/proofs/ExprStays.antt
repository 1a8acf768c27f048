-- A settled fault of an expression stays.
use Rattle.std.proofs.Common.{◌≡◌, ℕ, suc, ◌+◌, ◌-◌, ◌<◌, ◌≤◌, Bool, true, false, ◌&&◌, ◌||◌, not, cond, eqb, leb, List, [], ◌∷◌, ◌++◌, length, drop, Option, Some, None, Ok, Err, refl, sym, ap, subst, ◌∙◌, append-nil, arith}
use Rattle.tpl_lang.specs.declared.tpl_kind.TplKind.TheVariants as kinds
use Rattle.tpl_lang.specs.declared.expr.Operand.TheVariants as operands
use Rattle.tpl_lang.specs.declared.date_format.DatePart.TheVariants as dates
use Rattle.text_base.specs.Size.{size_of}
use Rattle.read_base.specs.Reads.{◌>>=◌, is_at, run_at, all_at}
use Rattle.tpl_lang.specs.declared.expr.Op.{Op}
use Rattle.tpl_lang.specs.declared.date_format.DatePart.{DatePart}
use Rattle.tpl_lang.specs.declared.date_format.Directive.{Directive}
use Rattle.tpl_lang.specs.declared.scan.Class.TheVariants.{DateText}
use Rattle.tpl_lang.specs.Bytes.{in_class, is_word_byte}
use Rattle.tpl_lang.specs.Keys.{word_at, path_behind, path_at}
use Rattle.tpl_lang.specs.ExprReading.{number_length, operand_at, is_operator, operation_at, directive_by, in_date, date_part_at, date_format_at, expr_at, exprs_at, has_decimals, point_length, first_directive}
use Rattle.tpl_lang.specs.Spelled.{IsOperation, IsDatePart, IsExpr}
use Rattle.std.specs.List.{prefix_len}
use Rattle.text_base.specs.Spelling.{is_digit}
use Rattle.tpl_lang.specs.declared.expr.Op.TheVariants.{Add, Sub, Mul}
use Rattle.tpl_lang.specs.Bytes.{is_word_byte}
use Rattle.tpl_lang.specs.ExprReading.{key_goes_on, has_decimals, point_length, number_length}
use Rattle.tpl_lang.proofs.ExprSpells.{operation_some, operation_spells, date_part_some, date_part_spells, view_of, expr_spells}
use Rattle.std.specs.Prelude.{◌==◌}
use Rattle.std.proofs.lemmas.List.{length-drop, length-append}
use Rattle.text_base.proofs.Logic.{same_head}
use Rattle.tpl_lang.specs.ExprReading.{directive_of}
use Rattle.read_base.proofs.LocalLemmas.{pure_local, stop_local, cond_local, drop_local, then_local, same_local, run_local, all_local, is_at_near, head_near, and_near, drop_short}
use Rattle.read_base.specs.Laws.{Shrinks, Within, Moved}
use Rattle.tpl_lang.specs.Places.{settling}
use Rattle.tpl_lang.proofs.StayLemmas.{Stays, Near_here, Twins, free_word, free_point, digits_short, digits_same, digits_near, behind_near, not_near, cut_moves, cut_shrinks, list_local, Turned, run_turned}
use Rattle.tpl_lang.proofs.OpenLemmas.{Reading, takes_some}
use Rattle.tpl_lang.proofs.ExprOpen.{number_of, pointed, point_of, path_operand, number_cut, operation_of, operation_same}
use Rattle.tpl_lang.proofs.PathStays.{word_local, path_behind_local, path_local}

-- ---- numbers

goes_near : Near_here key_goes_on
goes_near = head_near settling false key_goes_on refl (λ b r r'. refl)

decimals_near : Near_here has_decimals
decimals_near = and_near settling (λ t. leb 1 (prefix_len is_digit t) && leb (prefix_len is_digit t) 9) (λ t. not (key_goes_on (drop (prefix_len is_digit t) t))) (digits_near (λ n. leb 1 n && leb n 9)) (behind_near (λ u. not (key_goes_on u)) (not_near key_goes_on goes_near))

-- a length that is the same before both, and ends before the place
record Same (x y len : ℕ) : Type 0 where
  pub short : x ≤ len
  pub same : x ≡ y

cond_short : (v : Bool) (x y len : ℕ) → x ≤ len → y ≤ len → cond v x y ≤ len
cond_short true x y len h k = h
cond_short false x y len h k = k

point_same : (v c d : List ℕ) → Twins c d → Same (point_of (has_decimals (v ++ c)) (prefix_len is_digit (v ++ c))) (point_of (has_decimals (v ++ d)) (prefix_len is_digit (v ++ d))) (1 + length v)
point_same v c d w = record {
  short = cond_short (has_decimals (v ++ c)) (1 + prefix_len is_digit (v ++ c)) 0 (1 + length v) (omega (arith, digits_short v c d w)) (omega arith);
  same = ap (λ (t : Bool). point_of t (prefix_len is_digit (v ++ c))) (decimals_near v c d w) ∙ ap (λ (n : ℕ). point_of (has_decimals (v ++ d)) n) (sym (digits_same v c d w));
}

free_number : (n a : ℕ) (t : List ℕ) → is_word_byte a ≡ false → (a == 46) ≡ false → number_of n (a ∷ t) ≡ cond (eqb n 0 || false) 0 n
free_number n a t h k = ap (λ (v : Bool). cond (eqb n 0 || v) 0 (cond (not (a == 46)) n (pointed n (point_length (a ∷ t))))) h ∙ ap (λ (v : Bool). cond (eqb n 0 || false) 0 (cond (not v) n (pointed n (point_length (a ∷ t))))) k

number_by : (n : ℕ) (u c d : List ℕ) → Twins c d → Same (number_of n (u ++ c)) (number_of n (u ++ d)) (n + length u)
number_by n [] c d w =
    let one : number_of n c ≡ cond (eqb n 0 || false) 0 n = ap (number_of n) w.one ∙ free_number n w.a (w.w ++ w.u) (free_word c d w) (free_point c d w) in
    let other : number_of n d ≡ cond (eqb n 0 || false) 0 n = ap (number_of n) w.other ∙ free_number n w.a (w.w ++ w.v) (free_word c d w) (free_point c d w) in
    record { short = subst (λ (k : ℕ). k ≤ n + 0) (sym one) (cond_short (eqb n 0 || false) 0 n (n + 0) (omega arith) (omega arith)); same = one ∙ sym other }
number_by n (b ∷ v) c d w =
    let p = point_same v c d w in
    let x = point_length (b ∷ (v ++ c)) in
    record {
      short = cond_short (eqb n 0 || is_word_byte b) 0 (cond (not (b == 46)) n (pointed n x)) (n + suc (length v)) (omega arith)
          (cond_short (not (b == 46)) n (pointed n x) (n + suc (length v)) (omega arith) (cond_short (eqb x 0) 0 (n + x) (n + suc (length v)) (omega arith) (omega (arith, p.short))));
      same = ap (λ (k : ℕ). cond (eqb n 0 || is_word_byte b) 0 (cond (not (b == 46)) n (pointed n k))) p.same;
    }

number_settled : (s c d : List ℕ) → Twins c d → Same (number_length (s ++ c)) (number_length (s ++ d)) (length s)
number_settled s c d w =
    let n = prefix_len is_digit (s ++ c) in
    let le = digits_short s c d w in
    let b = number_by n (drop n s) c d w in
    let len : n + length (drop n s) ≡ length s = omega (arith, le, length-drop n s) in
    let one : number_length (s ++ c) ≡ number_of n (drop n s ++ c) = ap (number_of n) (drop_short n s c le) in
    let other : number_length (s ++ d) ≡ number_of n (drop n s ++ d) = ap (λ (k : ℕ). number_of k (drop k (s ++ d))) (digits_same s c d w) ∙ ap (number_of n) (drop_short n s d le) in
    record { short = subst (λ (k : ℕ). k ≤ length s) (sym one) (omega (arith, b.short, len)); same = one ∙ b.same ∙ sym other }

number_cut_local : Stays (λ t. number_cut (number_length t) t)
number_cut_local = record {
  shrinks = λ t. cut_shrinks (λ x. operands.Number (size_of 1000 x)) (number_length t) t;
  moves = λ s c d w h. let n = number_settled s c d w in cut_moves (λ x. operands.Number (size_of 1000 x)) (number_length (s ++ c)) (number_length (s ++ d)) s c d n.short (sym n.same);
}

operand_local : Stays operand_at
unfolding operand_at
operand_local = cond_local settling (λ t. eqb (number_length t) 0) path_operand (λ t. number_cut (number_length t) t) (λ s c d w. ap (λ (n : ℕ). eqb n 0) (number_settled s c d w).same)
    (then_local settling word_at (λ word r. path_behind word r >>= λ path. Ok (operands.Path path.0, path.1)) word_local (λ word. then_local settling (path_behind word) (λ path r. Ok (operands.Path path, r)) (path_behind_local word) (λ path. pure_local settling (operands.Path path))))
    number_cut_local

-- ---- operations

operation_of_local : (op : Op) → Stays (operation_of op)
operation_of_local op = then_local settling operand_at (λ operand r. Ok (record { op = op; operand = operand }, r)) operand_local (λ operand. pure_local settling (record { op = op; operand = operand }))

operation_local : Stays operation_at
unfolding operation_at
operation_local = same_local settling (λ t. cond (is_at 43 t) (operation_of Add (drop 1 t)) (cond (is_at 45 t) (operation_of Sub (drop 1 t)) (cond (is_at 42 t) (operation_of Mul (drop 1 t)) (Err (kinds.Syntax, length t))))) operation_at
    (λ t. operation_same (is_at 43 t) (is_at 45 t) (is_at 42 t) t)
    (cond_local settling (is_at 43) (λ t. operation_of Add (drop 1 t)) (λ t. cond (is_at 45 t) (operation_of Sub (drop 1 t)) (cond (is_at 42 t) (operation_of Mul (drop 1 t)) (Err (kinds.Syntax, length t)))) (is_at_near settling 43) (drop_local settling 1 (operation_of Add) (operation_of_local Add))
    (cond_local settling (is_at 45) (λ t. operation_of Sub (drop 1 t)) (λ t. cond (is_at 42 t) (operation_of Mul (drop 1 t)) (Err (kinds.Syntax, length t))) (is_at_near settling 45) (drop_local settling 1 (operation_of Sub) (operation_of_local Sub))
    (cond_local settling (is_at 42) (λ t. operation_of Mul (drop 1 t)) (λ t. Err (kinds.Syntax, length t)) (is_at_near settling 42) (drop_local settling 1 (operation_of Mul) (operation_of_local Mul)) (stop_local settling kinds.Syntax))))

operator_near : Near_here is_operator
operator_near = head_near settling false is_operator refl (λ b r r'. refl)

-- ---- date formats

date_part_turned : Turned IsDatePart
date_part_turned w q c d (dates.Directive x) t h = h
date_part_turned w q c d (dates.Text run) t h = (h.0, (h.1.0, run_turned (in_class DateText) q c d t h.1.1, h.1.2))

-- a percent sign, by what stands behind it
abbrev directive_part : List ℕ → Reading DatePart
directive_part t = directive_by (length t) (drop 1 t) (first_directive (drop 1 t))

abbrev text_part : List ℕ → Reading DatePart
text_part t = run_at kinds.Syntax (in_class DateText) t >>= λ run. Ok (dates.Text run.0, run.1)

text_local : Stays text_part
text_local = then_local settling (run_at kinds.Syntax (in_class DateText)) (λ run r. Ok (dates.Text run, r)) (run_local settling kinds.Syntax (in_class DateText)) (λ run. pure_local settling (dates.Text run))

directive_shrinks : (o : Option Directive) (g t u : List ℕ) (x : ℕ) → t ≡ x ∷ u → Shrinks settling t (directive_by (length t) u o)
directive_shrinks None g t [] x e = λ l. omega arith
directive_shrinks None g t (b ∷ u) x e = λ l. omega arith
directive_shrinks (Some d) g t [] x e = (t, sym (append-nil t))
directive_shrinks (Some d) g t (b ∷ u) x e = (x ∷ b ∷ [], e)

directive_shrinks_all : (t : List ℕ) → Shrinks settling t (directive_part t)
directive_shrinks_all [] = λ l. omega arith
directive_shrinks_all (x ∷ u) = directive_shrinks (first_directive u) [] (x ∷ u) u x refl

-- two bytes that are known
directive_known : (o : Option Directive) (y : ℕ) (n m : ℕ) (q c d : List ℕ) → m ≡ n - length c + length d → Moved c d (directive_by n (y ∷ (q ++ c)) o) (directive_by m (y ∷ (q ++ d)) o)
directive_known None y n m q c d e = ap (λ (k : ℕ). Err (kinds.Directive, k)) e
directive_known (Some x) y n m q c d e = (q, refl, refl)

directive_turn : (o : Option Directive) (x b b' : ℕ) (c d : List ℕ) → Within settling (b ∷ c) (directive_by (length (x ∷ b ∷ c)) (b ∷ c) o) → Moved (b ∷ c) (b' ∷ d) (directive_by (length (x ∷ b ∷ c)) (b ∷ c) o) (directive_by (length (x ∷ b' ∷ d)) (b' ∷ d) o)
directive_turn None x b b' c d h = ap (λ (k : ℕ). Err (kinds.Directive, k)) (omega arith)
directive_turn (Some y) x b b' c d h = absurd (omega (arith, h))

-- the second byte stands in c
directive_over : (o : Option Directive) (y : ℕ) (n m : ℕ) (r r' c d : List ℕ) → length r < length c → m ≡ n - length c + length d → Within settling c (directive_by n (y ∷ r) o) → Moved c d (directive_by n (y ∷ r) o) (directive_by m (y ∷ r') o)
directive_over None y n m r r' c d lt e h = ap (λ (k : ℕ). Err (kinds.Directive, k)) e
directive_over (Some x) y n m r r' c d lt e h = absurd (omega (arith, lt, h))

directive_second : (x : ℕ) (c d : List ℕ) (a : ℕ) (r r' : List ℕ) → c ≡ a ∷ r → d ≡ a ∷ r' → Within settling c (directive_part (x ∷ c)) → Moved c d (directive_part (x ∷ c)) (directive_part (x ∷ d))
directive_second x [] d a r r' e1 e2 h = absurd cc
directive_second x (b ∷ c) [] a r r' e1 e2 h = absurd cc
directive_second x (b ∷ c) (b' ∷ d) a r r' e1 e2 h =
    let same : b' ≡ b = same_head b' a d r' e2 ∙ sym (same_head b a c r e1) in
    subst (λ (y : ℕ). Moved (b ∷ c) (b' ∷ d) (directive_part (x ∷ b ∷ c)) (directive_by (length (x ∷ b' ∷ d)) (b' ∷ d) (directive_of y))) (sym same)
    (directive_turn (directive_of b) x b b' c d h)

directive_front : (c d : List ℕ) (a : ℕ) (w u v : List ℕ) → c ≡ a ∷ (w ++ u) → d ≡ a ∷ (w ++ v) → 3 ≤ length w + 1 → Within settling c (directive_part c) → Moved c d (directive_part c) (directive_part d)
directive_front c d a [] u v e1 e2 wide h = absurd (omega (arith, wide))
directive_front c d a (y ∷ w) u v e1 e2 wide h =
    subst (λ (l : List ℕ). Moved c d (directive_part c) (directive_part l)) (sym e2) (subst (λ (l : List ℕ). Moved c d (directive_part l) (directive_part (a ∷ y ∷ (w ++ v)))) (sym e1)
    (directive_over (directive_of y) y (length (a ∷ y ∷ (w ++ u))) (length (a ∷ y ∷ (w ++ v))) (w ++ u) (w ++ v) c d (omega (arith, ap length e1)) (omega (arith, ap length e1, ap length e2)) (subst (λ (l : List ℕ). Within settling c (directive_part l)) e1 h)))

directive_moves : (s c d : List ℕ) → Twins c d → Within settling c (directive_part (s ++ c)) → Moved c d (directive_part (s ++ c)) (directive_part (s ++ d))
directive_moves [] c d w h = directive_front c d w.a w.w w.u w.v w.one w.other w.wide h
directive_moves (x ∷ []) c d w h = directive_second x c d w.a (w.w ++ w.u) (w.w ++ w.v) w.one w.other h
directive_moves (x ∷ y ∷ s) c d w h = directive_known (directive_of y) y (length (x ∷ y ∷ (s ++ c))) (length (x ∷ y ∷ (s ++ d))) s c d (omega (arith, length-append s c, length-append s d))

directive_local : Stays directive_part
directive_local = record { shrinks = directive_shrinks_all; moves = directive_moves }

date_part_local : Stays date_part_at
unfolding date_part_at
date_part_local = cond_local settling (is_at 37) directive_part text_part (is_at_near settling 37) directive_local text_local

date_near : Near_here in_date
date_near = head_near settling false in_date refl (λ b r r'. refl)

date_format_local : Stays date_format_at
unfolding date_format_at
date_format_local = cond_local settling (is_at 62) (λ t. all_at in_date date_part_at (drop 1 t) >>= λ parts. Ok (Some parts.0, parts.1)) (λ t. Ok (None, t)) (is_at_near settling 62)
    (drop_local settling 1 (λ t. all_at in_date date_part_at t >>= λ parts. Ok (Some parts.0, parts.1)) (then_local settling (all_at in_date date_part_at) (λ parts r. Ok (Some parts, r))
    (all_local settling in_date date_part_at refl (takes_some in_date date_part_at IsDatePart date_part_some (λ t p here e. date_part_spells t p e)) date_near date_part_local) (λ parts. pure_local settling (Some parts))))
    (pure_local settling None)

-- ---- expressions

pub expr_local : Stays expr_at
unfolding expr_at
expr_local =
    then_local settling path_at (λ path r. all_at is_operator operation_at r >>= λ operations. date_format_at operations.1 >>= λ date. Ok (view_of path operations.0 date.0, date.1)) path_local
    (λ path. then_local settling (all_at is_operator operation_at) (λ operations r. date_format_at r >>= λ date. Ok (view_of path operations date.0, date.1))
    (all_local settling is_operator operation_at refl (takes_some is_operator operation_at IsOperation operation_some operation_spells) operator_near operation_local)
    (λ operations. then_local settling date_format_at (λ date r. Ok (view_of path operations date, r)) date_format_local (λ date. pure_local settling (view_of path operations date))))

pub exprs_local : Stays exprs_at
unfolding exprs_at
exprs_local = then_local settling expr_at (λ first r. all_at (is_at 44) (λ u. expr_at (drop 1 u)) r >>= λ others. Ok (first ∷ others.0, others.1)) expr_local
    (λ first. then_local settling (all_at (is_at 44) (λ u. expr_at (drop 1 u))) (λ others r. Ok (first ∷ others, r)) (list_local 44 expr_at IsExpr expr_spells expr_local) (λ others. pure_local settling (first ∷ others)))
