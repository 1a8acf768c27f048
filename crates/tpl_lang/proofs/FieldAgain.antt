-- A field that is spelled so is taken.
use Rattle.std.proofs.Common.{◌≡◌, ℕ, ◌<◌, ◌≤◌, Bool, false, ◌&&◌, cond, eqb, ltb, List, [], ◌∷◌, ◌++◌, length, take, drop, Option, Some, None, Result, Ok, Err, refl, sym, ap, ◌∙◌, append_assoc, arith, inl, inr}
use Rattle.std.specs.Prelude.{is_some}
use Rattle.std.specs.List.{prefix_len}
use Rattle.text_base.specs.Spelling.{is_digit}
use Rattle.text_base.specs.Value.{digits_value}
use Rattle.read_base.specs.Reads.{◌>>=◌, is_at, mark_at, run_at, all_at}
use Rattle.read_base.specs.Spelled.{AreAll}
use Rattle.tpl_lang.specs.declared.tpl_kind.TplKind.{TplKind}
use Rattle.tpl_lang.specs.declared.tpl_kind.TplKind.TheVariants.{Syntax, Brace, TypeLetter}
use Rattle.tpl_lang.specs.declared.scan.Class.TheVariants.{Flag, Default, ReplacementText}
use Rattle.tpl_lang.specs.declared.replacement.Align.{Align}
use Rattle.tpl_lang.specs.declared.replacement.ReplacementPart.{ReplacementPart}
use Rattle.tpl_lang.specs.declared.replacement.ReplacementPart.TheVariants as pieces
use Rattle.tpl_lang.specs.declared.conv.Conv.{Conv}
use Rattle.tpl_lang.specs.declared.conv.Kind.{Kind}
use Rattle.tpl_lang.specs.Bytes.{in_class}
use Rattle.tpl_lang.specs.Exprs.{ExprView}
use Rattle.tpl_lang.specs.Fields.{FieldView}
use Rattle.tpl_lang.specs.ExprReading.{exprs_at}
use Rattle.tpl_lang.specs.FieldReading.{refused_brace, align_of, aligned_at, value_at, in_replacement, replacement_part_at, replacement_at, default_of, short_at, precision_at, kind_of, is_length, first_kind, behind_length, type_by, type_at, conv_at, is_bare, field_at}
use Rattle.tpl_lang.specs.Spelled.{IsEnd, Follows, Marked, IsReplacementPart, IsReplacement, IsDefault, IsShort, IsPrecision, IsType, IsConv, IsField}
use Rattle.std.proofs.lemmas.Bool.{ne_eqb, le-ltb, and_from}
use Rattle.std.proofs.lemmas.List.{take_at, drop_at, length-append}
use Rattle.read_base.proofs.StepLemmas.{run_len}
use Rattle.tpl_lang.proofs.FieldSpells.{replacement_part_some, conv_of, field_of, IsFieldBy}
use Rattle.tpl_lang.proofs.AgainLemmas.{AgainSo, taken, cond_yes, cond_no, third_of_three, third_of_four, step_on, front_moved, run_no_mark, end_again, follows_again, all_again, some_run_again, run_again_so}
use Rattle.tpl_lang.proofs.ExprAgain.{exprs_again}

-- ---- replacements

abbrev valued : Align → List ℕ → List ℕ → Result (ReplacementPart × List ℕ) (TplKind × ℕ)
valued align digits r = Ok (pieces.Value align (digits_value digits), r)

digits_then_brace : (brace : List ℕ) (side : ℕ) (digits r : List ℕ) (align : Align) → AreAll is_digit digits → 0 < length digits → length digits ≤ 5 → aligned_at brace (side ∷ (digits ++ 125 ∷ r)) (Some align) ≡ valued align digits r
digits_then_brace brace side digits r align all some few =
    let v = digits ++ 125 ∷ r in
    let n = prefix_len is_digit v in
    let len : n ≡ length digits = run_len is_digit digits (125 ∷ r) all refl in
    let front : take n v ≡ digits = take_at digits (125 ∷ r) n (sym len) in
    let rest : drop n v ≡ 125 ∷ r = drop_at digits (125 ∷ r) n (sym len) in
    let here : aligned_at brace (side ∷ v) (Some align) ≡ valued align (take n v) (drop 1 (drop n v)) =
    third_of_four (ltb 5 n) (eqb n 0) (is_at 125 (drop n v)) (Err (Brace, length brace)) (refused_brace brace (drop n v)) (valued align (take n v) (drop 1 (drop n v))) (refused_brace brace (drop n v))
    (le-ltb 5 n (omega (arith, len, few))) (ne_eqb n 0 (λ e. omega (arith, e, len, some))) (ap (is_at 125) rest) in
    here ∙ ap (λ (l : List ℕ). valued align l (drop 1 (drop n v))) front ∙ ap (λ (l : List ℕ). valued align digits (drop 1 l)) rest

abbrev text_piece : Result (List ℕ × List ℕ) (TplKind × ℕ) → Result (ReplacementPart × List ℕ) (TplKind × ℕ)
text_piece z = z >>= λ run. Ok (pieces.Text run.0, run.1)

plain_piece : (t : List ℕ) → is_at 123 t ≡ false → is_at 125 t ≡ false → replacement_part_at t ≡ text_piece (run_at Syntax (in_class ReplacementText) t)
unfolding replacement_part_at
plain_piece t h k = third_of_three (is_at 123 t) (is_at 125 t) _ _ _ h k

aligned_piece : (side : ℕ) (v : List ℕ) → replacement_part_at (123 ∷ 58 ∷ side ∷ v) ≡ aligned_at (123 ∷ 58 ∷ side ∷ v) (side ∷ v) (align_of (side ∷ []))
unfolding replacement_part_at value_at
aligned_piece side v = refl

pub replacement_part_again : AgainSo replacement_part_at IsReplacementPart
unfolding replacement_part_at value_at
replacement_part_again s r (pieces.Text run) h = elim h [
  | inl a ↦ ap (λ (l : List ℕ). replacement_part_at (l ++ r)) a.0 ∙ ap (λ (z : List ℕ). taken (pieces.Text z) r) (sym a.1)
  | inr b ↦ elim b [
    | inl c ↦ ap (λ (l : List ℕ). replacement_part_at (l ++ r)) c.0 ∙ ap (λ (z : List ℕ). taken (pieces.Text z) r) (sym c.1)
    | inr d ↦
        plain_piece (s ++ r) (run_no_mark (in_class ReplacementText) 123 s r refl d.0 d.1.0) (run_no_mark (in_class ReplacementText) 125 s r refl d.0 d.1.0)
        ∙ ap text_piece (some_run_again Syntax (in_class ReplacementText) s r run d)
  ]
]
replacement_part_again s r (pieces.Value align width) h = elim h [
  | inl a ↦ ap (λ (l : List ℕ). replacement_part_at (l ++ r)) a.0 ∙ ap (λ (z : Align). taken (pieces.Value z 0) r) (sym a.1) ∙ ap (λ (z : ℕ). taken (pieces.Value align z) r) (sym a.2)
  | inr b ↦
      let v = (b.1 ++ 125 ∷ []) ++ r in
      let brace = 123 ∷ 58 ∷ b.0 ∷ v in
      ap (λ (l : List ℕ). replacement_part_at (l ++ r)) b.7 ∙ aligned_piece b.0 v ∙ ap (λ (o : Option Align). aligned_at brace (b.0 ∷ v) o) b.2
      ∙ ap (λ (l : List ℕ). aligned_at brace (b.0 ∷ l) (Some align)) (append_assoc b.1 (125 ∷ []) r) ∙ digits_then_brace brace b.0 b.1 r align b.3 b.4 b.5 ∙ ap (λ (z : ℕ). taken (pieces.Value align z) r) (sym b.6)
]

abbrev some_pieces : Result (List ReplacementPart × List ℕ) (TplKind × ℕ) → Result (Option (List ReplacementPart) × List ℕ) (TplKind × ℕ)
some_pieces z = z >>= λ parts. Ok (Some parts.0, parts.1)

abbrev no_replacement : List ℕ → Result (Option (List ReplacementPart) × List ℕ) (TplKind × ℕ)
no_replacement t = Ok (None, t)

replacement_again : AgainSo replacement_at IsReplacement
unfolding replacement_at
replacement_again s r None h =
    cond_no (is_at 38 (s ++ r)) (some_pieces (all_at in_replacement replacement_part_at (drop 1 (s ++ r)))) (no_replacement (s ++ r)) (ap (λ (l : List ℕ). is_at 38 (l ++ r)) h.0 ∙ h.1) ∙ ap (λ (l : List ℕ). no_replacement (l ++ r)) h.0
replacement_again s r (Some parts) h =
    ap (λ (l : List ℕ). replacement_at (l ++ r)) h.2 ∙ ap some_pieces (all_again in_replacement replacement_part_at IsReplacementPart replacement_part_some replacement_part_again h.0 r parts h.1)

-- ---- defaults

abbrev defaulted : Option (List ℕ) × List ℕ → Result (Option (List ℕ) × List ℕ) (TplKind × ℕ)
defaulted d = Ok d

abbrev default_cut : ℕ → List ℕ → Option (List ℕ) × List ℕ
default_cut n u = (Some (take n u), drop n u)

abbrev no_default : List ℕ → Option (List ℕ) × List ℕ
no_default t = (None, t)

default_none : (t : List ℕ) → is_at 124 t ≡ false → default_of t ≡ no_default t
default_none t h = cond_no (is_at 124 t) (default_cut (prefix_len (in_class Default) (drop 1 t)) (drop 1 t)) (no_default t) h

default_is : (n : ℕ) (s r : List ℕ) → length s ≡ n → defaulted (default_cut n (s ++ r)) ≡ taken (Some s) r
default_is n s r e = rw (take_at s r n e, drop_at s r n e) refl

default_again : AgainSo (λ t. Ok (default_of t)) IsDefault
default_again s r None h = ap defaulted (default_none (s ++ r) (ap (λ (l : List ℕ). is_at 124 (l ++ r)) h.0 ∙ h.1)) ∙ ap (λ (l : List ℕ). defaulted (no_default (l ++ r))) h.0
default_again s r (Some run) h =
    let inner = h.0 in
    let n = prefix_len (in_class Default) (inner ++ r) in
    let len : n ≡ length inner = run_len (in_class Default) inner r h.1.0 h.1.1 in
    ap (λ (l : List ℕ). defaulted (default_of (l ++ r))) h.2 ∙ default_is n inner r (sym len) ∙ ap (λ (l : List ℕ). taken (Some l) r) (sym h.1.2)

-- ---- conversions

abbrev counted : ℕ → List ℕ → Result (Option ℕ × List ℕ) (TplKind × ℕ)
counted n t = Ok (Some (digits_value (take n t)), drop n t)

abbrev no_count : List ℕ → Result (Option ℕ × List ℕ) (TplKind × ℕ)
no_count t = Ok (None, t)

abbrev short_cut : ℕ → List ℕ → Result (Option ℕ × List ℕ) (TplKind × ℕ)
short_cut n t = cond (ltb 5 n) (Err (Syntax, length (drop 5 t))) (counted n t)

counted_is : (n : ℕ) (s r : List ℕ) → length s ≡ n → counted n (s ++ r) ≡ taken (Some (digits_value s)) r
counted_is n s r e = rw (take_at s r n e, drop_at s r n e) refl

short_again : AgainSo short_at IsShort
unfolding short_at
short_again s r None h =
    let n = prefix_len is_digit (s ++ r) in
    let none : n ≡ 0 = ap (λ (l : List ℕ). prefix_len is_digit (l ++ r)) h.0 ∙ run_len is_digit [] r tt h.1 in
    cond_yes (eqb n 0) (no_count (s ++ r)) (short_cut n (s ++ r)) (ap (λ (k : ℕ). eqb k 0) none) ∙ ap (λ (l : List ℕ). no_count (l ++ r)) h.0
short_again s r (Some count) h =
    let n = prefix_len is_digit (s ++ r) in
    let len : n ≡ length s = run_len is_digit s r h.2.1.0 h.2.1.1 in
    third_of_three (eqb n 0) (ltb 5 n) (no_count (s ++ r)) (Err (Syntax, length (drop 5 (s ++ r)))) (counted n (s ++ r)) (ne_eqb n 0 (λ e. omega (arith, e, len, h.2.0))) (le-ltb 5 n (omega (arith, len, h.0)))
    ∙ counted_is n s r (sym len) ∙ ap (λ (l : List ℕ). taken (Some (digits_value l)) r) (sym h.2.1.2) ∙ ap (λ (k : ℕ). taken (Some k) r) (sym h.3)

abbrev precise : List ℕ → Result (Option ℕ × List ℕ) (TplKind × ℕ)
precise u = cond (eqb (length u) 0) (Err (TypeLetter, 0)) (cond (eqb (prefix_len is_digit u) 0) (Err (Syntax, length u)) (short_at u))

precise_at : (u : List ℕ) → eqb (length u) 0 ≡ false → eqb (prefix_len is_digit u) 0 ≡ false → precision_at (46 ∷ u) ≡ short_at u
unfolding precision_at
precise_at u h k = third_of_three (eqb (length u) 0) (eqb (prefix_len is_digit u) 0) _ _ _ h k

precision_again : AgainSo precision_at IsPrecision
unfolding precision_at
precision_again s r None h = cond_no (is_at 46 (s ++ r)) (precise (drop 1 (s ++ r))) (no_count (s ++ r)) (ap (λ (l : List ℕ). is_at 46 (l ++ r)) h.0 ∙ h.1) ∙ ap (λ (l : List ℕ). no_count (l ++ r)) h.0
precision_again s r (Some count) h =
    let u = h.0 ++ r in
    let some : 0 < length h.0 = h.1.2.0 in
    let len : prefix_len is_digit u ≡ length h.0 = run_len is_digit h.0 r h.1.2.1.0 h.1.2.1.1 in
    ap (λ (l : List ℕ). precision_at (l ++ r)) h.2 ∙ precise_at u (ne_eqb (length u) 0 (λ e. omega (arith, e, some, length-append h.0 r))) (ne_eqb (prefix_len is_digit u) 0 (λ e. omega (arith, e, some, len)))
    ∙ short_again h.0 r (Some count) h.1

-- ---- types

pub type_again : AgainSo type_at IsType
type_again s r x h = elim h [
  | inl a ↦
      let e : behind_length (a.0 ∷ a.1 ∷ r) ≡ a.1 ∷ r = cond_yes (is_length a.0 && is_some (kind_of a.1)) (a.1 ∷ r) (a.0 ∷ a.1 ∷ r) (and_from (is_length a.0) (is_some (kind_of a.1)) a.2 (ap (λ (o : Option Kind). is_some o) a.3)) in
      ap (λ (l : List ℕ). type_at (l ++ r)) a.4 ∙ ap (λ (l : List ℕ). type_by l (first_kind l)) e ∙ ap (λ (o : Option Kind). type_by (a.1 ∷ r) o) a.3
  | inr b ↦
      let e : behind_length (b.0 ∷ r) ≡ b.0 ∷ r = cond_no (is_length b.0 && is_some (first_kind r)) r (b.0 ∷ r) b.1 in
      ap (λ (l : List ℕ). type_at (l ++ r)) b.3 ∙ ap (λ (l : List ℕ). type_by l (first_kind l)) e ∙ ap (λ (o : Option Kind). type_by (b.0 ∷ r) o) b.2
]

-- ---- conversions and fields

pub conv_again : AgainSo conv_at IsConv
unfolding conv_at
conv_again =
    follows_again (λ t. Ok (take (prefix_len (in_class Flag) t) t, drop (prefix_len (in_class Flag) t) t))
    (λ signs r. short_at r >>= λ width. precision_at width.1 >>= λ precision. type_at precision.1 >>= λ kind. Ok (conv_of signs width.0 precision.0 kind.0, kind.1)) _ _ (run_again_so (in_class Flag))
    (λ signs. follows_again short_at (λ width r. precision_at r >>= λ precision. type_at precision.1 >>= λ kind. Ok (conv_of signs width precision.0 kind.0, kind.1)) _ _ short_again
    (λ width. follows_again precision_at (λ precision r. type_at r >>= λ kind. Ok (conv_of signs width precision kind.0, kind.1)) _ _ precision_again
    (λ precision. follows_again type_at (λ kind r. Ok (conv_of signs width precision kind, r)) _ _ type_again (λ kind. end_again (conv_of signs width precision kind)))))

abbrev finished : List ExprView → Option (List ReplacementPart) → Option (List ℕ) → Bool → Conv × List ℕ → Result (FieldView × List ℕ) (TplKind × ℕ)
finished exprs replacement default bare conv = Ok (field_of exprs replacement default conv.0 bare, conv.1)

abbrev closed : List ExprView → Option (List ReplacementPart) → Option (List ℕ) → Bool → List ℕ → Result (FieldView × List ℕ) (TplKind × ℕ)
closed exprs replacement default bare r = mark_at Syntax 41 r >>= λ rest. conv_at rest >>= finished exprs replacement default bare

close_again : (exprs : List ExprView) (replacement : Option (List ReplacementPart)) (default : Option (List ℕ)) (bare : Bool)
    → AgainSo (closed exprs replacement default bare) (Follows (Marked 41 IsConv) (λ conv. IsEnd (field_of exprs replacement default conv bare)))
close_again exprs replacement default bare s r x h =
    let inner = h.3.0 in
    let rest = h.1 ++ r in
    let whole : s ++ r ≡ 41 ∷ (inner ++ rest) = front_moved s h.0 h.1 r h.5 ∙ ap (λ (l : List ℕ). l ++ rest) h.3.2 in
    ap (closed exprs replacement default bare) whole
    ∙ step_on (conv_at (inner ++ rest)) (finished exprs replacement default bare) (h.2, rest) (conv_again inner rest h.2 h.3.1)
    ∙ ap (λ (l : List ℕ). taken (field_of exprs replacement default h.2 bare) (l ++ r)) h.4.0 ∙ ap (λ (z : FieldView). taken z r) (sym h.4.1)

field_by : (bare : Bool) → AgainSo (λ t. exprs_at t >>= λ exprs. replacement_at exprs.1 >>= λ replacement. closed exprs.0 replacement.0 (default_of replacement.1).0 bare (default_of replacement.1).1) (IsFieldBy bare)
field_by bare =
    follows_again exprs_at (λ exprs r. replacement_at r >>= λ replacement. closed exprs replacement.0 (default_of replacement.1).0 bare (default_of replacement.1).1) _ _ exprs_again
    (λ exprs. follows_again replacement_at (λ replacement r. closed exprs replacement (default_of r).0 bare (default_of r).1) _ _ replacement_again
    (λ replacement. follows_again (λ r. Ok (default_of r)) (λ default r. closed exprs replacement default bare r) _ _ default_again
    (λ default. close_again exprs replacement default bare)))

pub field_again : AgainSo field_at IsField
unfolding field_at
field_again s r x h = field_by (is_bare (s ++ r)) s r x h
