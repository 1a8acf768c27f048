-- An expression that is cut where its fault stands has no fault before its end.
use Rattle.std.proofs.Common.{◌≡◌, ℕ, ◌+◌, ◌<◌, ◌≤◌, Bool, true, false, ◌&&◌, ◌||◌, not, cond, eqb, leb, List, [], ◌∷◌, ◌++◌, length, take, drop, Option, Some, None, Ok, Err, refl, sym, ap, subst, ◌∙◌, arith, inl, inr, ◌⊎◌}
use Rattle.tpl_lang.specs.declared.tpl_kind.TplKind.TheVariants as kinds
use Rattle.tpl_lang.specs.declared.expr.Operand.TheVariants as operands
use Rattle.tpl_lang.specs.declared.date_format.DatePart.TheVariants as dates
use Rattle.text_base.specs.Size.{size_of}
use Rattle.read_base.specs.Reads.{◌>>=◌, is_at, run_at, all_at}
use Rattle.tpl_lang.specs.declared.expr.Op.{Op}
use Rattle.tpl_lang.specs.declared.expr.Operand.{Operand}
use Rattle.tpl_lang.specs.declared.expr.Operation.{Operation}
use Rattle.tpl_lang.specs.declared.date_format.Directive.{Directive}
use Rattle.tpl_lang.specs.declared.scan.Class.TheVariants.{DateText}
use Rattle.tpl_lang.specs.Bytes.{in_class, is_word_byte}
use Rattle.tpl_lang.specs.Keys.{word_at, path_behind, path_at}
use Rattle.tpl_lang.specs.ExprReading.{number_length, operand_at, is_operator, operation_by, operation_at, directive_by, directive_at, in_date, date_part_at, date_format_at, expr_at, exprs_at, has_decimals, point_length, first_directive}
use Rattle.tpl_lang.specs.Spelled.{IsOperation, IsDatePart, IsExpr}
use Rattle.std.specs.List.{prefix_len}
use Rattle.text_base.specs.Spelling.{is_digit}
use Rattle.std.specs.Prelude.{◌==◌}
use Rattle.tpl_lang.specs.declared.expr.Op.TheVariants.{Add, Sub, Mul}
use Rattle.std.proofs.lemmas.Bool.{ne_eqb, leb-true, le-leb, and_parts, and_from, both_ways, cases_lt}
use Rattle.std.proofs.lemmas.List.{length-append, length-drop, take-append-le}
use Rattle.std.specs.List.{prefix_len}
use Rattle.read_base.specs.Reads.{◌>>=◌, is_at, run_at, all_at}
use Rattle.read_base.proofs.LocalLemmas.{drop_short}
use Rattle.tpl_lang.specs.Bytes.{is_word_byte, has_word}
use Rattle.tpl_lang.specs.ExprReading.{key_goes_on, has_decimals, point_length, number_length}
use Rattle.tpl_lang.proofs.AgainLemmas.{cond_no}
use Rattle.tpl_lang.proofs.ExprSpells.{operation_some, operation_spells, date_part_some, date_part_spells, number_short, view_of, expr_spells}
use Rattle.tpl_lang.proofs.ExprAgain.{date_part_again}
use Rattle.tpl_lang.proofs.PathOpen.{list_cuts, word_cuts, path_behind_cuts, path_cuts}
use Rattle.tpl_lang.proofs.OpenLemmas.{Reading, AtEnd, Less, CutsTo, Cuts, past_cuts, pure_cuts, stop_cuts, same_cuts, drop_cuts, Head, cond_ended, cond_same, cond_cuts, at_head, then_cuts, run_kept, run_full, cut_run, all_cuts, takes_some, Edge, edge_cond, edge_bind, law_cuts, run_stays, Kept, drop_all_of}

-- ---- numbers

goes_on_before : (u c : List ℕ) → 0 < length u → key_goes_on (u ++ c) ≡ key_goes_on u
goes_on_before [] c h = absurd (omega (arith, h))
goes_on_before (b ∷ u) c h = refl

-- a number of the text with c and one without it: the same; or the second goes to the end of its text, or the first into c
abbrev Near : ℕ → ℕ → ℕ → Type 0
Near whole cut len = ((whole ≡ cut) × (whole ≤ len)) ⊎ ((cut ≡ len) ⊎ (len < whole))

abbrev pub point_of : Bool → ℕ → ℕ
point_of d n = cond d (1 + n) 0

point_short : (d : Bool) (n len : ℕ) → n ≤ len → point_of d n ≤ 1 + len
point_short true n len h = omega (arith, h)
point_short false n len h = omega arith

point_inner : (v c : List ℕ) → prefix_len is_digit (v ++ c) < length v → Near (point_of (has_decimals (v ++ c)) (prefix_len is_digit (v ++ c))) (point_of (has_decimals v) (prefix_len is_digit v)) (1 + length v)
point_inner v c lt =
    let n = prefix_len is_digit (v ++ c) in
    let m = prefix_len is_digit v in
    let same : m ≡ n = run_kept is_digit v c (omega (arith, lt)) in
    let on : key_goes_on (drop n (v ++ c)) ≡ key_goes_on (drop n v) = ap key_goes_on (drop_short n v c (omega (arith, lt))) ∙ goes_on_before (drop n v) c (omega (arith, lt, length-drop n v)) in
    let tests : has_decimals (v ++ c) ≡ has_decimals v = ap (λ (w : Bool). leb 1 n && leb n 9 && not w) on ∙ ap (λ (k : ℕ). leb 1 k && leb k 9 && not (key_goes_on (drop k v))) (sym same) in
    inl (ap (λ (d : Bool). point_of d n) tests ∙ ap (λ (k : ℕ). point_of (has_decimals v) k) (sym same), point_short (has_decimals (v ++ c)) n (length v) (omega (arith, lt)))

decimals_full : (v c : List ℕ) → prefix_len is_digit v ≡ length v → prefix_len is_digit (v ++ c) ≡ length v → has_decimals (v ++ c) ≡ true → has_decimals v ≡ true
decimals_full v c full same h =
    let n = prefix_len is_digit (v ++ c) in
    let m = prefix_len is_digit v in
    let two = and_parts (leb 1 n && leb n 9) (not (key_goes_on (drop n (v ++ c)))) h in
    let ones = and_parts (leb 1 n) (leb n 9) two.0 in
    and_from (leb 1 m && leb m 9) (not (key_goes_on (drop m v))) (and_from (leb 1 m) (leb m 9) (le-leb 1 m (omega (arith, full, same, leb-true 1 n ones.0))) (le-leb m 9 (omega (arith, full, same, leb-true n 9 ones.1))))
    (ap (λ (l : List ℕ). not (key_goes_on l)) (drop_all_of m v full))

point_outer : (v c : List ℕ) → length v ≤ prefix_len is_digit (v ++ c) → (d d' : Bool) → has_decimals (v ++ c) ≡ d → has_decimals v ≡ d' → Near (point_of d (prefix_len is_digit (v ++ c))) (point_of d' (prefix_len is_digit v)) (1 + length v)
point_outer v c le d true h k = inr (inl (omega (arith, run_full is_digit v c le)))
point_outer v c le false false h k = inl (refl, omega arith)
point_outer v c le true false h k = elim (cases_lt (length v) (prefix_len is_digit (v ++ c))) [
  | inl lt ↦ inr (inr (omega (arith, lt)))
  | inr ge ↦ absurd (both_ways (has_decimals v) k (decimals_full v c (run_full is_digit v c le) (omega (arith, le, ge)) h))
]

point_near : (v c : List ℕ) → Near (point_of (has_decimals (v ++ c)) (prefix_len is_digit (v ++ c))) (point_of (has_decimals v) (prefix_len is_digit v)) (1 + length v)
point_near v c = elim (cases_lt (prefix_len is_digit (v ++ c)) (length v)) [
  | inl lt ↦ point_inner v c lt
  | inr le ↦ point_outer v c le (has_decimals (v ++ c)) (has_decimals v) refl refl
]

abbrev pub pointed : ℕ → ℕ → ℕ
pointed n point = cond (eqb point 0) 0 (n + point)

pointed_short : (v : Bool) (n point len : ℕ) → point ≤ len → cond v 0 (n + point) ≤ n + len
pointed_short true n point len h = omega arith
pointed_short false n point len h = omega (arith, h)

pointed_near : (n p q len : ℕ) → 0 < len → Near p q len → Near (pointed n p) (pointed n q) (n + len)
pointed_near n p q len some (inl h) = inl (ap (pointed n) h.0, pointed_short (eqb p 0) n p len h.1)
pointed_near n p q len some (inr (inl h)) = inr (inl (cond_no (eqb q 0) 0 (n + q) (ne_eqb q 0 (λ e. omega (arith, e, h, some))) ∙ ap (λ (k : ℕ). n + k) h))
pointed_near n p q len some (inr (inr h)) = inr (inr (subst (λ (k : ℕ). n + len < k) (sym (cond_no (eqb p 0) 0 (n + p) (ne_eqb p 0 (λ e. omega (arith, e, h))))) (omega (arith, h))))

abbrev pub number_of : ℕ → List ℕ → ℕ
number_of n behind = cond (eqb n 0 || has_word behind) 0 (cond (not (is_at 46 behind)) n (pointed n (point_length behind)))

behind_by : (v w : Bool) (n p q len : ℕ) → 0 < len → Near p q len → Near (cond v 0 (cond w n (pointed n p))) (cond v 0 (cond w n (pointed n q))) (n + len)
behind_by true w n p q len some h = inl (refl, omega arith)
behind_by false true n p q len some h = inl (refl, omega arith)
behind_by false false n p q len some h = pointed_near n p q len some h

behind_near : (n : ℕ) (u c : List ℕ) → 0 < length u → Near (number_of n (u ++ c)) (number_of n u) (n + length u)
behind_near n [] c some = absurd (omega (arith, some))
behind_near n (b ∷ v) c some =
    let h : Near (point_length (b ∷ (v ++ c))) (point_length (b ∷ v)) (length (b ∷ v)) = subst (λ (k : ℕ). Near (point_length (b ∷ (v ++ c))) (point_length (b ∷ v)) k) (omega arith) (point_near v c) in
    behind_by (eqb n 0 || is_word_byte b) (not (b == 46)) n (point_length (b ∷ (v ++ c))) (point_length (b ∷ v)) (length (b ∷ v)) some h

number_full : (n : ℕ) (s : List ℕ) → n ≡ length s → 0 < length s → number_of n (drop n s) ≡ length s
number_full n s e some =
    let none : eqb n 0 ≡ false = ne_eqb n 0 (λ z. omega (arith, z, e, some)) in
    ap (number_of n) (drop_all_of n s e) ∙ ap (λ (v : Bool). cond (v || false) 0 (cond true n (pointed n (point_length [])))) none ∙ e

number_near : (s c : List ℕ) → 0 < length s → Near (number_length (s ++ c)) (number_length s) (length s)
number_near s c some =
    let n = prefix_len is_digit (s ++ c) in
    elim (cases_lt n (length s)) [
      | inl lt ↦
          let same : prefix_len is_digit s ≡ n = run_kept is_digit s c (omega (arith, lt)) in
          let len : n + length (drop n s) ≡ length s = omega (arith, lt, length-drop n s) in
          let near : Near (number_of n (drop n s ++ c)) (number_of n (drop n s)) (n + length (drop n s)) = behind_near n (drop n s) c (omega (arith, lt, length-drop n s)) in
          subst (λ (l : List ℕ). Near (number_of n l) (number_length s) (length s)) (sym (drop_short n s c (omega (arith, lt))))
          (subst (λ (m : ℕ). Near (number_of n (drop n s ++ c)) (number_of m (drop m s)) (length s)) (sym same) (subst (λ (k : ℕ). Near (number_of n (drop n s ++ c)) (number_of n (drop n s)) k) len near))
      | inr le ↦ inr (inl (number_full (prefix_len is_digit s) s (run_full is_digit s c le) some))
    ]

-- ---- operands

abbrev pub number_cut : ℕ → List ℕ → Reading Operand
number_cut n t = Ok (operands.Number (size_of 1000 (take n t)), drop n t)

abbrev pub path_operand : List ℕ → Reading Operand
path_operand t = word_at t >>= λ word. path_behind word.0 word.1 >>= λ path. Ok (operands.Path path.0, path.1)

path_operand_cuts : Cuts path_operand
path_operand_cuts = then_cuts word_at (λ word r. path_behind word r >>= λ path. Ok (operands.Path path.0, path.1)) word_cuts (λ word. then_cuts (path_behind word) (λ path r. Ok (operands.Path path, r)) (path_behind_cuts word) (λ path. pure_cuts (operands.Path path)))

abbrev operand_by : ℕ → List ℕ → Reading Operand
operand_by n t = cond (eqb n 0) (path_operand t) (number_cut n t)

number_any : (n : ℕ) (s c : List ℕ) (r : Reading Operand) → n ≤ length (s ++ c) → AtEnd r → CutsTo c (number_cut n (s ++ c)) r
number_any n s c r le end = λ big.
    let short : n ≤ length s = omega (arith, big, le, length-drop n (s ++ c), length-append s c) in
    (drop n s, drop_short n s c short, inr end)

abbrev number_made : List ℕ → List ℕ → Reading Operand
number_made x y = Ok (operands.Number (size_of 1000 x), y)

number_same : (n : ℕ) (s c : List ℕ) → n ≤ length s → CutsTo c (number_cut n (s ++ c)) (number_cut n s)
number_same n s c le = λ big. (drop n s, drop_short n s c le, inl (ap (λ (l : List ℕ). number_made l (drop n s)) (sym (take-append-le n s c le))))

operand_full : (n : ℕ) (s : List ℕ) → n ≡ length s → 0 < length s → AtEnd (operand_by n s)
operand_full n s e some = subst AtEnd (sym (cond_no (eqb n 0) (path_operand s) (number_cut n s) (ne_eqb n 0 (λ z. omega (arith, z, e, some))))) (drop_all_of n s e)

operand_near : (s c : List ℕ) (n m : ℕ) → 0 < length s → n ≤ length (s ++ c) → Near n m (length s) → CutsTo c (operand_by n (s ++ c)) (operand_by m s)
operand_near s c n m some le (inl h) =
    subst (λ (k : ℕ). CutsTo c (operand_by n (s ++ c)) (operand_by k s)) h.0 (cond_same c (eqb n 0) (eqb n 0) (path_operand (s ++ c)) (number_cut n (s ++ c)) (path_operand s) (number_cut n s) refl (path_operand_cuts.cuts s c) (number_same n s c h.1))
operand_near s c n m some le (inr (inl h)) =
    let end = operand_full m s h some in
    cond_ended c (eqb n 0) (path_operand (s ++ c)) (number_cut n (s ++ c)) (path_operand s) (operand_by m s) (operand_by m s) (path_operand_cuts.cuts s c) (number_any n s c (operand_by m s) le end) end
operand_near s c n m some le (inr (inr h)) =
    subst (λ (z : Reading Operand). CutsTo c z (operand_by m s)) (sym (cond_no (eqb n 0) (path_operand (s ++ c)) (number_cut n (s ++ c)) (ne_eqb n 0 (λ e. omega (arith, e, h)))))
    (past_cuts c (number_cut n (s ++ c)) (operand_by m s) (omega (arith, h, le, length-drop n (s ++ c), length-append s c)))

operand_cut : (s c : List ℕ) → CutsTo c (operand_by (number_length (s ++ c)) (s ++ c)) (operand_by (number_length s) s)
operand_cut [] c = cond_ended c (eqb (number_length c) 0) (path_operand c) (number_cut (number_length c) c) (path_operand []) (operand_by 0 []) (operand_by 0 []) (path_operand_cuts.cuts [] c) (number_any (number_length c) [] c (operand_by 0 []) (number_short c) refl) refl
operand_cut (b ∷ s) c = operand_near (b ∷ s) c (number_length (b ∷ (s ++ c))) (number_length (b ∷ s)) (omega arith) (number_short (b ∷ (s ++ c))) (number_near (b ∷ s) c (omega arith))

operand_less : (v : Bool) (n : ℕ) (t : List ℕ) → Less t (cond v (path_operand t) (number_cut n t))
operand_less true n t = path_operand_cuts.less t
operand_less false n t = omega (arith, length-drop n t)

operand_cuts : Cuts operand_at
unfolding operand_at
operand_cuts = record { less = λ t. operand_less (eqb (number_length t) 0) (number_length t) t; none = refl; cuts = operand_cut }

-- ---- operations

abbrev pub operation_of : Op → List ℕ → Reading Operation
operation_of op t = operand_at t >>= λ operand. Ok (record { op = op; operand = operand.0 }, operand.1)

operation_of_cuts : (op : Op) → Cuts (operation_of op)
operation_of_cuts op = then_cuts operand_at (λ operand r. Ok (record { op = op; operand = operand }, r)) operand_cuts (λ operand. pure_cuts (record { op = op; operand = operand }))

pub operation_same : (a b c : Bool) (t : List ℕ) → cond a (operation_of Add (drop 1 t)) (cond b (operation_of Sub (drop 1 t)) (cond c (operation_of Mul (drop 1 t)) (Err (kinds.Syntax, length t)))) ≡ operation_by (cond a (Some Add) (cond b (Some Sub) (cond c (Some Mul) None))) t
operation_same true b c t = refl
operation_same false true c t = refl
operation_same false false true t = refl
operation_same false false false t = refl

operation_cuts : Cuts operation_at
unfolding operation_at
operation_cuts = same_cuts (λ t. cond (is_at 43 t) (operation_of Add (drop 1 t)) (cond (is_at 45 t) (operation_of Sub (drop 1 t)) (cond (is_at 42 t) (operation_of Mul (drop 1 t)) (Err (kinds.Syntax, length t))))) operation_at
    (λ t. operation_same (is_at 43 t) (is_at 45 t) (is_at 42 t) t)
    (cond_cuts (is_at 43) (λ t. operation_of Add (drop 1 t)) (λ t. cond (is_at 45 t) (operation_of Sub (drop 1 t)) (cond (is_at 42 t) (operation_of Mul (drop 1 t)) (Err (kinds.Syntax, length t)))) (at_head 43) (drop_cuts (operation_of Add) (operation_of_cuts Add))
    (cond_cuts (is_at 45) (λ t. operation_of Sub (drop 1 t)) (λ t. cond (is_at 42 t) (operation_of Mul (drop 1 t)) (Err (kinds.Syntax, length t))) (at_head 45) (drop_cuts (operation_of Sub) (operation_of_cuts Sub))
    (cond_cuts (is_at 42) (λ t. operation_of Mul (drop 1 t)) (λ t. Err (kinds.Syntax, length t)) (at_head 42) (drop_cuts (operation_of Mul) (operation_of_cuts Mul)) (stop_cuts kinds.Syntax))))

operator_head : Head is_operator
operator_head b r r' = refl

-- ---- date formats

date_part_kept : Kept IsDatePart
date_part_kept w q c (dates.Directive d) h = h
date_part_kept w q c (dates.Text run) h = (h.0, (h.1.0, run_stays (in_class DateText) q c h.1.1, h.1.2))

directive_edge : (o : Option Directive) (t u : List ℕ) → Edge t (directive_by (length t) u o)
directive_edge None t [] = inl refl
directive_edge None t (b ∷ u) = inr refl
directive_edge (Some d) t [] = tt
directive_edge (Some d) t (b ∷ u) = tt

run_edge : (v : Bool) (n : ℕ) (t : List ℕ) → Edge t (cond v (Err (kinds.Syntax, length t)) (cut_run n t))
run_edge true n t = inr refl
run_edge false n t = tt

date_part_edge : (t : List ℕ) → Edge t (date_part_at t)
unfolding date_part_at
date_part_edge t = edge_cond (is_at 37 t) t (directive_at (length t) (drop 1 t)) (run_at kinds.Syntax (in_class DateText) t >>= λ run. Ok (dates.Text run.0, run.1)) (directive_edge (first_directive (drop 1 t)) t (drop 1 t))
    (edge_bind t (run_at kinds.Syntax (in_class DateText) t) (λ run. dates.Text run) (run_edge (eqb (prefix_len (in_class DateText) t) 0) (prefix_len (in_class DateText) t) t))

date_part_cuts : Cuts date_part_at
unfolding date_part_at
date_part_cuts = law_cuts date_part_at IsDatePart date_part_spells date_part_again date_part_kept refl date_part_edge

date_head : Head in_date
date_head b r r' = refl

date_format_cuts : Cuts date_format_at
unfolding date_format_at
date_format_cuts = cond_cuts (is_at 62) (λ t. all_at in_date date_part_at (drop 1 t) >>= λ parts. Ok (Some parts.0, parts.1)) (λ t. Ok (None, t)) (at_head 62)
    (drop_cuts (λ t. all_at in_date date_part_at t >>= λ parts. Ok (Some parts.0, parts.1)) (then_cuts (all_at in_date date_part_at) (λ parts r. Ok (Some parts, r))
    (all_cuts in_date date_part_at refl (takes_some in_date date_part_at IsDatePart date_part_some (λ t p here e. date_part_spells t p e)) date_head date_part_cuts) (λ parts. pure_cuts (Some parts))))
    (pure_cuts None)

-- ---- expressions

pub expr_cuts : Cuts expr_at
unfolding expr_at
expr_cuts =
    then_cuts path_at (λ path r. all_at is_operator operation_at r >>= λ operations. date_format_at operations.1 >>= λ date. Ok (view_of path operations.0 date.0, date.1)) path_cuts
    (λ path. then_cuts (all_at is_operator operation_at) (λ operations r. date_format_at r >>= λ date. Ok (view_of path operations date.0, date.1))
    (all_cuts is_operator operation_at refl (takes_some is_operator operation_at IsOperation operation_some operation_spells) operator_head operation_cuts)
    (λ operations. then_cuts date_format_at (λ date r. Ok (view_of path operations date, r)) date_format_cuts (λ date. pure_cuts (view_of path operations date))))

pub exprs_cuts : Cuts exprs_at
unfolding exprs_at
exprs_cuts = then_cuts expr_at (λ first r. all_at (is_at 44) (λ u. expr_at (drop 1 u)) r >>= λ others. Ok (first ∷ others.0, others.1)) expr_cuts
    (λ first. then_cuts (all_at (is_at 44) (λ u. expr_at (drop 1 u))) (λ others r. Ok (first ∷ others, r)) (list_cuts 44 expr_at IsExpr expr_spells expr_cuts) (λ others. pure_cuts (first ∷ others)))
