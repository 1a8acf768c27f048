-- A settled fault of a field stays.
use Rattle.std.proofs.Common.{◌≡◌, ℕ, suc, ◌+◌, ◌-◌, ◌≤◌, Bool, true, false, ◌&&◌, cond, eqb, ltb, List, [], ◌∷◌, ◌++◌, length, take, drop, Option, Some, None, Result, Ok, Err, refl, sym, ap, subst, ◌∙◌, append_assoc, arith, inl, inr, ◌⊎◌}
use Rattle.tpl_lang.specs.declared.replacement.ReplacementPart.TheVariants as pieces
use Rattle.text_base.specs.Spelling.{is_digit}
use Rattle.text_base.specs.Value.{digits_value}
use Rattle.tpl_lang.specs.declared.tpl_kind.TplKind.{TplKind}
use Rattle.tpl_lang.specs.declared.tpl_kind.TplKind.TheVariants.{Syntax, Brace, TypeLetter}
use Rattle.tpl_lang.specs.declared.scan.Class.TheVariants.{Flag, Default, ReplacementText}
use Rattle.tpl_lang.specs.declared.replacement.Align.{Align}
use Rattle.tpl_lang.specs.declared.replacement.ReplacementPart.{ReplacementPart}
use Rattle.tpl_lang.specs.declared.conv.Kind.{Kind}
use Rattle.tpl_lang.specs.Bytes.{in_class, is_letter}
use Rattle.tpl_lang.specs.Exprs.{ExprView}
use Rattle.tpl_lang.specs.Fields.{FieldView}
use Rattle.tpl_lang.specs.ExprReading.{exprs_at}
use Rattle.tpl_lang.specs.FieldReading.{refused_brace, align_of, aligned_at, value_at, in_replacement, replacement_part_at, replacement_at, default_of, short_at, precision_at, kind_of, first_kind, type_by, type_at, conv_at, is_bare, field_at}
use Rattle.tpl_lang.specs.Spelled.{IsReplacementPart}
use Rattle.tpl_lang.specs.declared.replacement.Align.TheVariants.{Left}
use Rattle.std.specs.List.{prefix_len}
use Rattle.read_base.specs.Reads.{◌>>=◌, is_at, mark_at, run_at, all_at}
use Rattle.tpl_lang.specs.FieldReading.{value_at, begins_length}
use Rattle.tpl_lang.proofs.FieldSpells.{replacement_part_some, replacement_part_spells, conv_of, field_of, IsFieldBy, field_by_spells}
use Rattle.tpl_lang.proofs.FieldAgain.{replacement_part_again}
use Rattle.std.specs.Prelude.{codes, is_some}
use Rattle.std.proofs.lemmas.Bool.{both_ways, ne_eqb}
use Rattle.std.proofs.lemmas.List.{length-append}
use Rattle.text_base.proofs.Logic.{cond_through}
use Rattle.read_base.proofs.StepLemmas.{chosen}
use Rattle.read_base.proofs.LocalLemmas.{pure_local, stop_local, cond_local, drop_local, then_local, same_local, mark_local, run_local, all_local, is_at_near, head_near, and_near}
use Rattle.read_base.specs.Laws.{Shrinks, Within, Moved}
use Rattle.tpl_lang.specs.Places.{settling}
use Rattle.tpl_lang.proofs.StayLemmas.{Stays, Near_here, Twins, some_length, digits_near, total_local, end_local, Turned, Errs, law_local, run_turned}
use Rattle.tpl_lang.proofs.SpellsLemmas.{TakesSo}
use Rattle.tpl_lang.proofs.AgainLemmas.{third_of_three}
use Rattle.tpl_lang.proofs.OpenLemmas.{Reading, Edge, Head, parted, takes_some, cut_run}
use Rattle.tpl_lang.proofs.FieldOpen.{given, replacement_part_edge, text_of, default_run, default_same, precise, closed, field_with, field_closes, closes_with, bare_front}
use Rattle.tpl_lang.proofs.ExprStays.{exprs_local}

-- ---- replacements

replacement_part_turned : Turned IsReplacementPart
replacement_part_turned w q c d (pieces.Text run) t (inl a) = inl a
replacement_part_turned w q c d (pieces.Text run) t (inr (inl b)) = inr (inl b)
replacement_part_turned w q c d (pieces.Text run) t (inr (inr h)) = inr (inr (h.0, (h.1.0, run_turned (in_class ReplacementText) q c d t h.1.1, h.1.2)))
replacement_part_turned w q c d (pieces.Value align width) t h = h

-- a fault that is not settled, or stands where the text ended
abbrev Soft : {A : Type 0} → Reading A → Type 0
Soft (Ok p) = Unit {0}
Soft (Err e) = settling.is_settled e.0 ≡ true → 1 ≤ e.1 → ⊥

soft_cond : {A : Type 0} (v : Bool) (x y : Reading A) → Soft x → Soft y → Soft (cond v x y)
soft_cond true x y h k = h
soft_cond false x y h k = k

soft_refused : (t rest : List ℕ) → Soft (refused_brace t rest)
soft_refused t rest = soft_cond (eqb (length rest) 0) (Err (Syntax, 0)) (Err (Brace, length t)) (λ h l. omega (arith, l)) (λ h l. both_ways false refl h)

soft_aligned : (t u : List ℕ) (o : Option Align) → Soft (aligned_at t u o)
soft_aligned t u None = soft_refused t u
soft_aligned t u (Some align) =
    let n = prefix_len is_digit (drop 1 u) in
    let rest = drop n (drop 1 u) in
    soft_cond (ltb 5 n) (Err (Brace, length t)) (cond (eqb n 0) (refused_brace t rest) (cond (is_at 125 rest) (Ok (pieces.Value align (digits_value (take n (drop 1 u))), drop 1 rest)) (refused_brace t rest))) (λ h l. both_ways false refl h)
    (soft_cond (eqb n 0) (refused_brace t rest) (cond (is_at 125 rest) (Ok (pieces.Value align (digits_value (take n (drop 1 u))), drop 1 rest)) (refused_brace t rest)) (soft_refused t rest)
    (soft_cond (is_at 125 rest) (Ok (pieces.Value align (digits_value (take n (drop 1 u))), drop 1 rest)) (refused_brace t rest) tt (soft_refused t rest)))

soft_value : (t : List ℕ) → Soft (value_at t)
unfolding value_at
soft_value t =
    let rest = drop 1 t in
    soft_cond (is_at 125 rest) (Ok (pieces.Value Left 0, drop 1 rest)) (cond (is_at 58 rest) (aligned_at t (drop 1 rest) (align_of (drop 1 rest))) (refused_brace t rest)) tt
    (soft_cond (is_at 58 rest) (aligned_at t (drop 1 rest) (align_of (drop 1 rest))) (refused_brace t rest) (soft_aligned t (drop 1 rest) (align_of (drop 1 rest))) (soft_refused t rest))

abbrev opening : List ℕ → Reading ReplacementPart
opening t = cond (is_at 123 (drop 1 t)) (Ok (pieces.Text (codes "{"), drop 1 (drop 1 t))) (value_at t)

abbrev closing : List ℕ → Reading ReplacementPart
closing t = cond (is_at 125 (drop 1 t)) (Ok (pieces.Text (codes "}"), drop 1 (drop 1 t))) (refused_brace t (drop 1 t))

soft_opening : (t : List ℕ) → Soft (opening t)
soft_opening t = soft_cond (is_at 123 (drop 1 t)) (Ok (pieces.Text (codes "{"), drop 1 (drop 1 t))) (value_at t) tt (soft_value t)

soft_closing : (t : List ℕ) → Soft (closing t)
soft_closing t = soft_cond (is_at 125 (drop 1 t)) (Ok (pieces.Text (codes "}"), drop 1 (drop 1 t))) (refused_brace t (drop 1 t)) tt (soft_refused t (drop 1 t))

never : (z : Reading ReplacementPart) (e : TplKind × ℕ) → Soft z → z ≡ Err e → settling.is_settled e.0 ≡ true → 1 ≤ e.1 → ⊥
never z e soft h = subst Soft h soft

record TextFails (t : List ℕ) (e : TplKind × ℕ) : Type 0 where
  pub opens : is_at 123 t ≡ false
  pub closes : is_at 125 t ≡ false
  pub fails : text_of t ≡ Err e

text_fails : (t : List ℕ) (e : TplKind × ℕ) → replacement_part_at t ≡ Err e → settling.is_settled e.0 ≡ true → 1 ≤ e.1 → TextFails t e
unfolding replacement_part_at
text_fails t e h settled some = elim (chosen (is_at 123 t) (opening t) (cond (is_at 125 t) (closing t) (text_of t)) (Err e) h) [
  | inl a ↦ absurd (never (opening t) e (soft_opening t) a.1 settled some)
  | inr a ↦ elim (chosen (is_at 125 t) (closing t) (text_of t) (Err e) a.1) [
    | inl b ↦ absurd (never (closing t) e (soft_closing t) b.1 settled some)
    | inr b ↦ record { opens = a.0; closes = b.0; fails = b.1 }
  ]
]

text_part : (t : List ℕ) → is_at 123 t ≡ false → is_at 125 t ≡ false → replacement_part_at t ≡ text_of t
unfolding replacement_part_at
text_part t h k = third_of_three (is_at 123 t) (is_at 125 t) _ _ _ h k

text_local : Stays text_of
text_local = then_local settling (run_at Syntax (in_class ReplacementText)) (λ run r. Ok (pieces.Text run, r)) (run_local settling Syntax (in_class ReplacementText)) (λ run. pure_local settling (pieces.Text run))

replacement_part_errs : Errs replacement_part_at
replacement_part_errs s c d e w h settled le =
    let f = text_fails (s ++ c) e h settled (omega (arith, le, some_length c d w)) in
    let within : Within settling c (text_of (s ++ c)) = subst (Within settling c) (sym f.fails) (settled, le) in
    let moved : Moved c d (Err e) (text_of (s ++ d)) = subst (λ (z : Reading ReplacementPart). Moved c d z (text_of (s ++ d))) f.fails (text_local.moves s c d w within) in
    text_part (s ++ d) (sym (is_at_near settling 123 s c d w) ∙ f.opens) (sym (is_at_near settling 125 s c d w) ∙ f.closes) ∙ moved

edge_less : (t : List ℕ) (e : TplKind × ℕ) → ((e.1 ≡ 0) ⊎ (e.1 ≡ length t)) → e.1 ≤ length t
edge_less t e (inl h) = omega (arith, h)
edge_less t e (inr h) = omega (arith, h)

replacement_part_local : Stays replacement_part_at
replacement_part_local = law_local replacement_part_at IsReplacementPart replacement_part_spells replacement_part_again replacement_part_turned replacement_part_errs (λ t e h. edge_less t e (subst (Edge t) h (replacement_part_edge t)))

replacement_near : Near_here in_replacement
replacement_near = head_near settling false in_replacement refl (λ b r r'. refl)

replacement_local : Stays replacement_at
unfolding replacement_at
replacement_local = cond_local settling (is_at 38) (λ t. all_at in_replacement replacement_part_at (drop 1 t) >>= λ parts. Ok (Some parts.0, parts.1)) (λ t. Ok (None, t)) (is_at_near settling 38)
    (drop_local settling 1 (λ t. all_at in_replacement replacement_part_at t >>= λ parts. Ok (Some parts.0, parts.1)) (then_local settling (all_at in_replacement replacement_part_at) (λ parts r. Ok (Some parts, r))
    (all_local settling in_replacement replacement_part_at refl (takes_some in_replacement replacement_part_at IsReplacementPart replacement_part_some (λ t p here e. replacement_part_spells t p e)) replacement_near replacement_part_local) (λ parts. pure_local settling (Some parts))))
    (pure_local settling None)

-- ---- defaults

default_local : Stays (λ t. given (default_of t))
default_local = same_local settling (λ t. cond (is_at 124 t) (default_run (drop 1 t)) (Ok (None, t))) (λ t. given (default_of t)) (λ t. default_same (is_at 124 t) t)
    (cond_local settling (is_at 124) (λ t. default_run (drop 1 t)) (λ t. Ok (None, t)) (is_at_near settling 124) (drop_local settling 1 default_run (total_local (in_class Default) (λ x. Some x))) (pure_local settling None))

-- ---- numbers of a conversion

short_local : Stays short_at
unfolding short_at
short_local = cond_local settling (λ t. eqb (prefix_len is_digit t) 0) (λ t. Ok (None, t)) (λ t. cond (ltb 5 (prefix_len is_digit t)) (Err (Syntax, length (drop 5 t))) (Ok (Some (digits_value (take (prefix_len is_digit t) t)), drop (prefix_len is_digit t) t)))
    (digits_near (λ n. eqb n 0)) (pure_local settling None)
    (cond_local settling (λ t. ltb 5 (prefix_len is_digit t)) (λ t. Err (Syntax, length (drop 5 t))) (λ t. Ok (Some (digits_value (take (prefix_len is_digit t) t)), drop (prefix_len is_digit t) t)) (digits_near (λ n. ltb 5 n))
    (drop_local settling 5 (λ t. Err (Syntax, length t)) (stop_local settling Syntax)) (total_local is_digit (λ x. Some (digits_value x))))

empty_near : Near_here (λ u. eqb (length u) 0)
empty_near = head_near settling true (λ u. eqb (length u) 0) refl (λ b r r'. ne_eqb (suc (length r)) 0 (λ e. omega (arith, e)) ∙ sym (ne_eqb (suc (length r')) 0 (λ e. omega (arith, e))))

precision_local : Stays precision_at
unfolding precision_at
precision_local = cond_local settling (is_at 46) (λ t. precise (drop 1 t)) (λ t. Ok (None, t)) (is_at_near settling 46)
    (drop_local settling 1 precise (cond_local settling (λ u. eqb (length u) 0) (λ u. Err (TypeLetter, 0)) (λ u. cond (eqb (prefix_len is_digit u) 0) (Err (Syntax, length u)) (short_at u)) empty_near (end_local TypeLetter)
    (cond_local settling (λ u. eqb (prefix_len is_digit u) 0) (λ u. Err (Syntax, length u)) short_at (digits_near (λ n. eqb n 0)) (stop_local settling Syntax) short_local)))
    (pure_local settling None)

-- ---- types

abbrev plain_type : List ℕ → Reading Kind
plain_type t = type_by t (first_kind t)

abbrev no_type : Bool → List ℕ → Reading Kind
no_type v t = cond v (Err (TypeLetter, length t)) (Err (Syntax, length t))

no_type_moves : (v : Bool) (t t' c d : List ℕ) → length t' ≡ length t - length c + length d → Within settling c (no_type v t) → Moved c d (no_type v t) (no_type v t')
no_type_moves true t t' c d e h = absurd (both_ways false refl h.0)
no_type_moves false t t' c d e h = ap (λ (n : ℕ). Err (Syntax, n)) e

plain_inner : (o : Option Kind) (x : ℕ) (s c d : List ℕ) → Within settling c (type_by (x ∷ (s ++ c)) o) → Moved c d (type_by (x ∷ (s ++ c)) o) (type_by (x ∷ (s ++ d)) o)
plain_inner None x s c d h = no_type_moves (is_letter x) (x ∷ (s ++ c)) (x ∷ (s ++ d)) c d (omega (arith, length-append s c, length-append s d)) h
plain_inner (Some k) x s c d h = (s, refl, refl)

plain_front : (o : Option Kind) (a : ℕ) (r r' c d : List ℕ) → c ≡ a ∷ r → d ≡ a ∷ r' → Within settling c (type_by (a ∷ r) o) → Moved c d (type_by (a ∷ r) o) (type_by (a ∷ r') o)
plain_front None a r r' c d e1 e2 h = no_type_moves (is_letter a) (a ∷ r) (a ∷ r') c d (omega (arith, ap length e1, ap length e2)) h
plain_front (Some k) a r r' c d e1 e2 h = absurd (omega (arith, h, ap length e1))

plain_moves : (s c d : List ℕ) → Twins c d → Within settling c (plain_type (s ++ c)) → Moved c d (plain_type (s ++ c)) (plain_type (s ++ d))
plain_moves [] c d w h =
    subst (λ (l : List ℕ). Moved c d (plain_type c) (plain_type l)) (sym w.other) (subst (λ (l : List ℕ). Moved c d (plain_type l) (plain_type (w.a ∷ (w.w ++ w.v)))) (sym w.one)
    (plain_front (kind_of w.a) w.a (w.w ++ w.u) (w.w ++ w.v) c d w.one w.other (subst (λ (l : List ℕ). Within settling c (plain_type l)) w.one h)))
plain_moves (x ∷ s) c d w h = plain_inner (kind_of x) x s c d h

no_type_shrinks : (v : Bool) (t : List ℕ) → Shrinks settling t (no_type v t)
no_type_shrinks true t = λ l. omega arith
no_type_shrinks false t = λ l. omega arith

plain_shrinks : (o : Option Kind) (t : List ℕ) → Shrinks settling t (type_by t o)
plain_shrinks (Some k) [] = ([], refl)
plain_shrinks (Some k) (b ∷ t) = (b ∷ [], refl)
plain_shrinks None [] = λ l. omega arith
plain_shrinks None (b ∷ t) = no_type_shrinks (is_letter b) (b ∷ t)

plain_local : Stays plain_type
plain_local = record { shrinks = λ t. plain_shrinks (first_kind t) t; moves = plain_moves }

second_by : (test : List ℕ → Bool) → Head test → (c d : List ℕ) (a : ℕ) (w u v : List ℕ) → c ≡ a ∷ (w ++ u) → d ≡ a ∷ (w ++ v) → 3 ≤ length w + 1 → test (drop 1 c) ≡ test (drop 1 d)
second_by test head c d a [] u v e1 e2 wide = absurd (omega (arith, wide))
second_by test head c d a (y ∷ w) u v e1 e2 wide = ap (λ (l : List ℕ). test (drop 1 l)) e1 ∙ head y (w ++ u) (w ++ v) ∙ sym (ap (λ (l : List ℕ). test (drop 1 l)) e2)

second_near : (test : List ℕ → Bool) → Head test → Near_here test → Near_here (λ t. test (drop 1 t))
second_near test head near [] c d w = second_by test head c d w.a w.w w.u w.v w.one w.other w.wide
second_near test head near (x ∷ s) c d w = near s c d w

kind_near : Near_here (λ t. is_some (first_kind t))
kind_near = head_near settling false (λ t. is_some (first_kind t)) refl (λ b r r'. refl)

length_near : Near_here begins_length
length_near = head_near settling false begins_length refl (λ b r r'. refl)

type_local : Stays type_at
type_local = same_local settling (λ t. cond (begins_length t && is_some (first_kind (drop 1 t))) (plain_type (drop 1 t)) (plain_type t)) type_at
    (λ t. sym (cond_through plain_type (begins_length t && is_some (first_kind (drop 1 t))) (drop 1 t) t))
    (cond_local settling (λ t. begins_length t && is_some (first_kind (drop 1 t))) (λ t. plain_type (drop 1 t)) plain_type
    (and_near settling begins_length (λ t. is_some (first_kind (drop 1 t))) length_near (second_near (λ t. is_some (first_kind t)) (λ b r r'. refl) kind_near)) (drop_local settling 1 plain_type plain_local) plain_local)

-- ---- conversions and fields

conv_local : Stays conv_at
unfolding conv_at
conv_local =
    then_local settling (λ t. cut_run (prefix_len (in_class Flag) t) t)
    (λ signs r. short_at r >>= λ width. precision_at width.1 >>= λ precision. type_at precision.1 >>= λ kind. Ok (conv_of signs width.0 precision.0 kind.0, kind.1)) (total_local (in_class Flag) (λ x. x))
    (λ signs. then_local settling short_at (λ width r. precision_at r >>= λ precision. type_at precision.1 >>= λ kind. Ok (conv_of signs width precision.0 kind.0, kind.1)) short_local
    (λ width. then_local settling precision_at (λ precision r. type_at r >>= λ kind. Ok (conv_of signs width precision kind.0, kind.1)) precision_local
    (λ precision. then_local settling type_at (λ kind r. Ok (conv_of signs width precision kind, r)) type_local (λ kind. pure_local settling (conv_of signs width precision kind)))))

closed_local : (exprs : List ExprView) (replacement : Option (List ReplacementPart)) (default : Option (List ℕ)) (bare : Bool) → Stays (closed exprs replacement default bare)
closed_local exprs replacement default bare = mark_local settling Syntax 41 (λ rest. conv_at rest >>= λ conv. Ok (field_of exprs replacement default conv.0 bare, conv.1))
    (then_local settling conv_at (λ conv r. Ok (field_of exprs replacement default conv bare, r)) conv_local (λ conv. pure_local settling (field_of exprs replacement default conv bare)))

field_with_local : (bare : Bool) → Stays (field_with bare)
field_with_local bare =
    then_local settling exprs_at (λ exprs r. replacement_at r >>= λ replacement. closed exprs replacement.0 (default_of replacement.1).0 bare (default_of replacement.1).1) exprs_local
    (λ exprs. then_local settling replacement_at (λ replacement r. closed exprs replacement (default_of r).0 bare (default_of r).1) replacement_local
    (λ replacement. then_local settling (λ r. given (default_of r)) (λ default r. closed exprs replacement default bare r) default_local (λ default. closed_local exprs replacement default bare)))

err_by : {A B : Type 0} (e : TplKind × ℕ) (r : Result A (TplKind × ℕ)) (f g : A → Reading B) → ((x : A) → f x ≡ Err e → g x ≡ Err e) → (r >>= f) ≡ Err e → (r >>= g) ≡ Err e
err_by e (Ok x) f g law h = law x h
err_by e (Err c) f g law h = h

closed_err : (e : TplKind × ℕ) (exprs : List ExprView) (replacement : Option (List ReplacementPart)) (default : Option (List ℕ)) (v v' : Bool) (r : List ℕ) → closed exprs replacement default v r ≡ Err e → closed exprs replacement default v' r ≡ Err e
closed_err e exprs replacement default v v' r h =
    err_by e (mark_at Syntax 41 r) (λ rest. conv_at rest >>= λ conv. Ok (field_of exprs replacement default conv.0 v, conv.1)) (λ rest. conv_at rest >>= λ conv. Ok (field_of exprs replacement default conv.0 v', conv.1))
    (λ rest k. err_by e (conv_at rest) (λ conv. Ok (field_of exprs replacement default conv.0 v, conv.1)) (λ conv. Ok (field_of exprs replacement default conv.0 v', conv.1)) (λ conv l. absurd cc) k) h

bare_err : (e : TplKind × ℕ) (v v' : Bool) (t : List ℕ) → field_with v t ≡ Err e → field_with v' t ≡ Err e
bare_err e v v' t h =
    err_by e (exprs_at t) (λ exprs. replacement_at exprs.1 >>= λ replacement. closed exprs.0 replacement.0 (default_of replacement.1).0 v (default_of replacement.1).1) (λ exprs. replacement_at exprs.1 >>= λ replacement. closed exprs.0 replacement.0 (default_of replacement.1).0 v' (default_of replacement.1).1)
    (λ exprs k. err_by e (replacement_at exprs.1) (λ replacement. closed exprs.0 replacement.0 (default_of replacement.1).0 v (default_of replacement.1).1) (λ replacement. closed exprs.0 replacement.0 (default_of replacement.1).0 v' (default_of replacement.1).1)
    (λ replacement l. closed_err e exprs.0 replacement.0 (default_of replacement.1).0 v v' (default_of replacement.1).1 l) k) h

bare_turned : (bare : Bool) (s c d : List ℕ) (p : FieldView × List ℕ) → TakesSo (IsFieldBy bare) (s ++ c) p → length c ≤ length p.1 → is_bare (s ++ c) ≡ is_bare (s ++ d)
bare_turned bare s c d p one le =
    let m = parted one.0 s c p.1 one.2 le in
    let h = field_closes bare one.0 p.1 p.0 one.1 in
    let here : s ++ c ≡ one.0 ++ (m.0 ++ c) = ap (λ (l : List ℕ). l ++ c) m.2 ∙ append_assoc one.0 m.0 c in
    let there : s ++ d ≡ one.0 ++ (m.0 ++ d) = ap (λ (l : List ℕ). l ++ d) m.2 ∙ append_assoc one.0 m.0 d in
    ap is_bare (here ∙ closes_with one.0 (m.0 ++ c) h) ∙ bare_front h.front h.byte h.rest (m.0 ++ c) (m.0 ++ d) ∙ ap is_bare (sym (closes_with one.0 (m.0 ++ d) h) ∙ sym there)

field_turn : (s c d : List ℕ) (z : Reading FieldView) → field_with (is_bare (s ++ c)) (s ++ c) ≡ z → Within settling c z → Moved c d z (field_with (is_bare (s ++ c)) (s ++ d)) → Moved c d z (field_with (is_bare (s ++ d)) (s ++ d))
field_turn s c d (Ok p) e h m =
    (m.0, m.1, subst (λ (v : Bool). field_with v (s ++ d) ≡ Ok (p.0, m.0 ++ d)) (bare_turned (is_bare (s ++ c)) s c d p (field_by_spells (is_bare (s ++ c)) (s ++ c) p e) h) m.2)
field_turn s c d (Err k) e h m = bare_err (k.0, k.1 - length c + length d) (is_bare (s ++ c)) (is_bare (s ++ d)) (s ++ d) m

pub field_local : Stays field_at
unfolding field_at
field_local = record {
  shrinks = λ t. (field_with_local (is_bare t)).shrinks t;
  moves = λ s c d w h. field_turn s c d (field_with (is_bare (s ++ c)) (s ++ c)) refl h ((field_with_local (is_bare (s ++ c))).moves s c d w h);
}
