-- A field that is cut where its fault stands has no fault before its end.
use Rattle.std.proofs.Common.{◌≡◌, ℕ, suc, ◌+◌, ◌<◌, ◌≤◌, Bool, true, false, ◌&&◌, cond, eqb, ltb, List, [], ◌∷◌, ◌++◌, length, take, drop, Option, Some, None, Result, Ok, Err, refl, sym, ap, subst, ◌∙◌, append_assoc, arith, inl, inr, ◌⊎◌}
use Rattle.tpl_lang.specs.declared.replacement.ReplacementPart.TheVariants as pieces
use Rattle.std.specs.Prelude.{◌==◌, is_some, codes}
use Rattle.text_base.specs.Spelling.{is_digit}
use Rattle.text_base.specs.Value.{digits_value}
use Rattle.tpl_lang.specs.declared.tpl_kind.TplKind.{TplKind}
use Rattle.tpl_lang.specs.declared.tpl_kind.TplKind.TheVariants.{Syntax, Brace, TypeLetter}
use Rattle.tpl_lang.specs.declared.scan.Class.TheVariants.{Flag, Default, ReplacementText}
use Rattle.tpl_lang.specs.declared.replacement.Align.{Align}
use Rattle.tpl_lang.specs.declared.replacement.ReplacementPart.{ReplacementPart}
use Rattle.tpl_lang.specs.declared.conv.Conv.{Conv}
use Rattle.tpl_lang.specs.declared.conv.Kind.{Kind}
use Rattle.tpl_lang.specs.Bytes.{in_class, is_letter}
use Rattle.tpl_lang.specs.Exprs.{ExprView}
use Rattle.tpl_lang.specs.Fields.{FieldView}
use Rattle.tpl_lang.specs.ExprReading.{exprs_at}
use Rattle.tpl_lang.specs.FieldReading.{refused_brace, align_of, aligned_at, value_at, in_replacement, replacement_part_at, replacement_at, default_of, short_at, precision_at, is_length, first_kind, type_by, type_at, conv_at, is_bare, field_at}
use Rattle.tpl_lang.specs.Spelled.{IsReplacementPart, IsType, IsConv}
use Rattle.tpl_lang.specs.declared.replacement.Align.TheVariants.{Left}
use Rattle.std.specs.List.{prefix_len}
use Rattle.std.proofs.lemmas.Bool.{eqb-true, ne_eqb, le-ltb, ltb-true, cases_lt}
use Rattle.std.proofs.lemmas.List.{length-append, length-drop, take-append-le, nil_from_length}
use Rattle.std.proofs.lemmas.List.Sums.{prefix_len-le-length}
use Rattle.read_base.specs.Reads.{◌>>=◌, is_at, mark_at, run_at, all_at}
use Rattle.read_base.proofs.LocalLemmas.{drop_short}
use Rattle.tpl_lang.specs.Bytes.{is_word_byte}
use Rattle.tpl_lang.specs.FieldReading.{value_at, begins_length}
use Rattle.tpl_lang.proofs.SpellsLemmas.{TakesSo}
use Rattle.tpl_lang.proofs.FieldSpells.{replacement_part_some, replacement_part_spells, type_spells, conv_of, field_of, IsFieldBy, field_by_spells}
use Rattle.tpl_lang.proofs.FieldAgain.{replacement_part_again, type_again}
use Rattle.tpl_lang.proofs.ExprOpen.{exprs_cuts}
use Rattle.tpl_lang.proofs.OpenLemmas.{Reading, AtEnd, Less, CutsTo, Cuts, pure_cuts, stop_cuts, end_cuts, same_cuts, drop_cuts, Head, cond_cuts, at_head, then_cuts, mark_cuts, run_kept, run_full, cut_run, run_cuts, run_head, all_cuts, takes_some, Edge, edge_cond, edge_bind, law_cuts, run_stays, Kept, drop_all_of}

abbrev pub given : {A : Type 0} → A × List ℕ → Reading A
given p = Ok p

-- ---- replacements

replacement_part_kept : Kept IsReplacementPart
replacement_part_kept w q c (pieces.Text run) (inl a) = inl a
replacement_part_kept w q c (pieces.Text run) (inr (inl b)) = inr (inl b)
replacement_part_kept w q c (pieces.Text run) (inr (inr d)) = inr (inr (d.0, (d.1.0, run_stays (in_class ReplacementText) q c d.1.1, d.1.2)))
replacement_part_kept w q c (pieces.Value align width) h = h

refused_edge : (t rest : List ℕ) → Edge t (refused_brace t rest)
refused_edge t rest = edge_cond (eqb (length rest) 0) t (Err (Syntax, 0)) (Err (Brace, length t)) (inl refl) (inr refl)

aligned_edge : (t u : List ℕ) (o : Option Align) → Edge t (aligned_at t u o)
aligned_edge t u None = refused_edge t u
aligned_edge t u (Some align) =
    let n = prefix_len is_digit (drop 1 u) in
    let rest = drop n (drop 1 u) in
    edge_cond (ltb 5 n) t (Err (Brace, length t)) (cond (eqb n 0) (refused_brace t rest) (cond (is_at 125 rest) (Ok (pieces.Value align (digits_value (take n (drop 1 u))), drop 1 rest)) (refused_brace t rest))) (inr refl)
    (edge_cond (eqb n 0) t (refused_brace t rest) (cond (is_at 125 rest) (Ok (pieces.Value align (digits_value (take n (drop 1 u))), drop 1 rest)) (refused_brace t rest)) (refused_edge t rest)
    (edge_cond (is_at 125 rest) t (Ok (pieces.Value align (digits_value (take n (drop 1 u))), drop 1 rest)) (refused_brace t rest) tt (refused_edge t rest)))

value_edge : (t : List ℕ) → Edge t (value_at t)
unfolding value_at
value_edge t =
    let rest = drop 1 t in
    edge_cond (is_at 125 rest) t (Ok (pieces.Value Left 0, drop 1 rest)) (cond (is_at 58 rest) (aligned_at t (drop 1 rest) (align_of (drop 1 rest))) (refused_brace t rest)) tt
    (edge_cond (is_at 58 rest) t (aligned_at t (drop 1 rest) (align_of (drop 1 rest))) (refused_brace t rest) (aligned_edge t (drop 1 rest) (align_of (drop 1 rest))) (refused_edge t rest))

run_edge : (v : Bool) (n : ℕ) (t : List ℕ) → Edge t (cond v (Err (Syntax, length t)) (cut_run n t))
run_edge true n t = inr refl
run_edge false n t = tt

abbrev pub text_of : List ℕ → Reading ReplacementPart
text_of t = run_at Syntax (in_class ReplacementText) t >>= λ run. Ok (pieces.Text run.0, run.1)

pub replacement_part_edge : (t : List ℕ) → Edge t (replacement_part_at t)
unfolding replacement_part_at
replacement_part_edge t =
    edge_cond (is_at 123 t) t (cond (is_at 123 (drop 1 t)) (Ok (pieces.Text (codes "{"), drop 1 (drop 1 t))) (value_at t)) (cond (is_at 125 t) (cond (is_at 125 (drop 1 t)) (Ok (pieces.Text (codes "}"), drop 1 (drop 1 t))) (refused_brace t (drop 1 t))) (text_of t))
    (edge_cond (is_at 123 (drop 1 t)) t (Ok (pieces.Text (codes "{"), drop 1 (drop 1 t))) (value_at t) tt (value_edge t))
    (edge_cond (is_at 125 t) t (cond (is_at 125 (drop 1 t)) (Ok (pieces.Text (codes "}"), drop 1 (drop 1 t))) (refused_brace t (drop 1 t))) (text_of t)
    (edge_cond (is_at 125 (drop 1 t)) t (Ok (pieces.Text (codes "}"), drop 1 (drop 1 t))) (refused_brace t (drop 1 t)) tt (refused_edge t (drop 1 t)))
    (edge_bind t (run_at Syntax (in_class ReplacementText) t) (λ run. pieces.Text run) (run_edge (eqb (prefix_len (in_class ReplacementText) t) 0) (prefix_len (in_class ReplacementText) t) t)))

replacement_part_cuts : Cuts replacement_part_at
unfolding replacement_part_at
replacement_part_cuts = law_cuts replacement_part_at IsReplacementPart replacement_part_spells replacement_part_again replacement_part_kept refl replacement_part_edge

replacement_head : Head in_replacement
replacement_head b r r' = refl

replacement_cuts : Cuts replacement_at
unfolding replacement_at
replacement_cuts = cond_cuts (is_at 38) (λ t. all_at in_replacement replacement_part_at (drop 1 t) >>= λ parts. Ok (Some parts.0, parts.1)) (λ t. Ok (None, t)) (at_head 38)
    (drop_cuts (λ t. all_at in_replacement replacement_part_at t >>= λ parts. Ok (Some parts.0, parts.1)) (then_cuts (all_at in_replacement replacement_part_at) (λ parts r. Ok (Some parts, r))
    (all_cuts in_replacement replacement_part_at refl (takes_some in_replacement replacement_part_at IsReplacementPart replacement_part_some (λ t p here e. replacement_part_spells t p e)) replacement_head replacement_part_cuts) (λ parts. pure_cuts (Some parts))))
    (pure_cuts None)

-- ---- defaults

abbrev pub default_run : List ℕ → Reading (Option (List ℕ))
default_run u = cut_run (prefix_len (in_class Default) u) u >>= λ run. Ok (Some run.0, run.1)

pub default_same : (v : Bool) (t : List ℕ) → cond v (default_run (drop 1 t)) (Ok (None, t)) ≡ given (cond v (Some (take (prefix_len (in_class Default) (drop 1 t)) (drop 1 t)), drop (prefix_len (in_class Default) (drop 1 t)) (drop 1 t)) (None, t))
default_same true t = refl
default_same false t = refl

default_cuts : Cuts (λ t. given (default_of t))
default_cuts = same_cuts (λ t. cond (is_at 124 t) (default_run (drop 1 t)) (Ok (None, t))) (λ t. given (default_of t)) (λ t. default_same (is_at 124 t) t)
    (cond_cuts (is_at 124) (λ t. default_run (drop 1 t)) (λ t. Ok (None, t)) (at_head 124) (drop_cuts default_run (then_cuts (λ u. cut_run (prefix_len (in_class Default) u) u) (λ run r. Ok (Some run, r)) (run_cuts (in_class Default)) (λ run. pure_cuts (Some run)))) (pure_cuts None))

-- ---- numbers of a conversion

abbrev short_by : ℕ → List ℕ → Reading (Option ℕ)
short_by n t = cond (eqb n 0) (Ok (None, t)) (cond (ltb 5 n) (Err (Syntax, length (drop 5 t))) (Ok (Some (digits_value (take n t)), drop n t)))

short_full_by : (a b : Bool) (n : ℕ) (s : List ℕ) → n ≡ length s → (a ≡ true → n ≡ 0) → b ≡ false → AtEnd {A = Option ℕ} (cond a (Ok (None, s)) (cond b (Err (Syntax, length (drop 5 s))) (Ok (Some (digits_value (take n s)), drop n s))))
short_full_by true b n s e none h = nil_from_length s (omega (arith, e, none refl))
short_full_by false true n s e none h = absurd cc
short_full_by false false n s e none h = drop_all_of n s e

short_full : (n : ℕ) (s : List ℕ) → n ≡ length s → length s ≤ 5 → AtEnd (short_by n s)
short_full n s e few = short_full_by (eqb n 0) (ltb 5 n) n s e (λ z. eqb-true n 0 z) (le-ltb 5 n (omega (arith, e, few)))

abbrev counted : List ℕ → List ℕ → Reading (Option ℕ)
counted digits t = Ok (Some (digits_value digits), t)

short_kept : (a b : Bool) (n : ℕ) (s c : List ℕ) → n ≤ length s → ltb 5 n ≡ b
    → CutsTo {A = Option ℕ} c (cond a (Ok (None, s ++ c)) (cond b (Err (Syntax, length (drop 5 (s ++ c)))) (Ok (Some (digits_value (take n (s ++ c))), drop n (s ++ c))))) (cond a (Ok (None, s)) (cond b (Err (Syntax, length (drop 5 s))) (Ok (Some (digits_value (take n s)), drop n s))))
short_kept true b n s c le h = λ big. (s, refl, inl refl)
short_kept false true n s c le h = λ same. omega (arith, same, length-drop 5 (s ++ c), length-drop 5 s, length-append s c, le, ltb-true 5 n h)
short_kept false false n s c le h = λ big. (drop n s, drop_short n s c le, inl (ap (λ (l : List ℕ). counted l (drop n s)) (sym (take-append-le n s c le))))

short_past : (a b : Bool) (n : ℕ) (s c : List ℕ) → length s < n → n ≤ length (s ++ c) → prefix_len is_digit s ≡ length s → eqb n 0 ≡ a → ltb 5 n ≡ b
    → CutsTo {A = Option ℕ} c (cond a (Ok (None, s ++ c)) (cond b (Err (Syntax, length (drop 5 (s ++ c)))) (Ok (Some (digits_value (take n (s ++ c))), drop n (s ++ c))))) (short_by (prefix_len is_digit s) s)
short_past true b n s c lt le full h k = absurd (omega (arith, lt, eqb-true n 0 h))
short_past false true n s c lt le full h k = λ same. short_full (prefix_len is_digit s) s full (omega (arith, same, length-drop 5 (s ++ c), length-append s c, le, ltb-true 5 n k))
short_past false false n s c lt le full h k = λ big. absurd (omega (arith, big, length-drop n (s ++ c), length-append s c, lt, le))

short_cut : (s c : List ℕ) → CutsTo c (short_by (prefix_len is_digit (s ++ c)) (s ++ c)) (short_by (prefix_len is_digit s) s)
short_cut s c =
    let n = prefix_len is_digit (s ++ c) in
    elim (cases_lt (length s) n) [
      | inl lt ↦ short_past (eqb n 0) (ltb 5 n) n s c lt (prefix_len-le-length is_digit (s ++ c)) (run_full is_digit s c (omega (arith, lt))) refl refl
      | inr le ↦ subst (λ (m : ℕ). CutsTo c (short_by n (s ++ c)) (short_by m s)) (sym (run_kept is_digit s c le)) (short_kept (eqb n 0) (ltb 5 n) n s c le refl)
    ]

short_less : (a b : Bool) (n : ℕ) (t : List ℕ) → Less {A = Option ℕ} t (cond a (Ok (None, t)) (cond b (Err (Syntax, length (drop 5 t))) (Ok (Some (digits_value (take n t)), drop n t))))
short_less true b n t = omega arith
short_less false true n t = omega (arith, length-drop 5 t)
short_less false false n t = omega (arith, length-drop n t)

short_cuts : Cuts short_at
unfolding short_at
short_cuts = record { less = λ t. short_less (eqb (prefix_len is_digit t) 0) (ltb 5 (prefix_len is_digit t)) (prefix_len is_digit t) t; none = refl; cuts = short_cut }

empty_head : Head (λ u. eqb (length u) 0)
empty_head b r r' = ne_eqb (suc (length r)) 0 (λ e. omega (arith, e)) ∙ sym (ne_eqb (suc (length r')) 0 (λ e. omega (arith, e)))

abbrev pub precise : List ℕ → Reading (Option ℕ)
precise u = cond (eqb (length u) 0) (Err (TypeLetter, 0)) (cond (eqb (prefix_len is_digit u) 0) (Err (Syntax, length u)) (short_at u))

precision_cuts : Cuts precision_at
unfolding precision_at
precision_cuts = cond_cuts (is_at 46) (λ t. precise (drop 1 t)) (λ t. Ok (None, t)) (at_head 46)
    (drop_cuts precise (cond_cuts (λ u. eqb (length u) 0) (λ u. Err (TypeLetter, 0)) (λ u. cond (eqb (prefix_len is_digit u) 0) (Err (Syntax, length u)) (short_at u)) empty_head (end_cuts TypeLetter)
    (cond_cuts (λ u. eqb (prefix_len is_digit u) 0) (λ u. Err (Syntax, length u)) short_at (run_head is_digit) (stop_cuts Syntax) short_cuts)))
    (pure_cuts None)

-- ---- types

first_kept : (q c : List ℕ) → is_some (first_kind (q ++ c)) ≡ false → is_some (first_kind q) ≡ false
first_kept [] c h = refl
first_kept (b ∷ q) c h = h

length_kept : (v : Bool) (q c : List ℕ) → v && is_some (first_kind (q ++ c)) ≡ false → v && is_some (first_kind q) ≡ false
length_kept true q c h = first_kept q c h
length_kept false q c h = refl

type_kept : Kept IsType
type_kept w q c x (inl a) = inl a
type_kept w q c x (inr b) = inr (b.0, length_kept (is_length b.0) q c b.1, b.2, b.3)

type_edge_by : (t : List ℕ) (o : Option Kind) → Edge t (type_by t o)
type_edge_by [] (Some kind) = tt
type_edge_by (b ∷ t) (Some kind) = tt
type_edge_by [] None = inl refl
type_edge_by (b ∷ t) None = edge_cond (is_letter b) (b ∷ t) (Err (TypeLetter, length (b ∷ t))) (Err (Syntax, length (b ∷ t))) (inr refl) (inr refl)

-- behind a length stands a type
type_edge_some : (t u : List ℕ) (o : Option Kind) → is_some o ≡ true → Edge t (type_by u o)
type_edge_some t u None h = absurd cc
type_edge_some t [] (Some kind) h = tt
type_edge_some t (b ∷ u) (Some kind) h = tt

both_right : (a b : Bool) → a && b ≡ true → b ≡ true
both_right true b h = h
both_right false b h = absurd cc

type_edge_at : (v : Bool) (t : List ℕ) → begins_length t && is_some (first_kind (drop 1 t)) ≡ v → Edge t (type_by (cond v (drop 1 t) t) (first_kind (cond v (drop 1 t) t)))
type_edge_at true t h = type_edge_some t (drop 1 t) (first_kind (drop 1 t)) (both_right (begins_length t) (is_some (first_kind (drop 1 t))) h)
type_edge_at false t h = type_edge_by t (first_kind t)

type_cuts : Cuts type_at
type_cuts = law_cuts type_at IsType type_spells type_again type_kept refl (λ t. type_edge_at (begins_length t && is_some (first_kind (drop 1 t))) t refl)

-- ---- conversions

pub conv_cuts : Cuts conv_at
unfolding conv_at
conv_cuts =
    then_cuts (λ t. cut_run (prefix_len (in_class Flag) t) t)
    (λ signs r. short_at r >>= λ width. precision_at width.1 >>= λ precision. type_at precision.1 >>= λ kind. Ok (conv_of signs width.0 precision.0 kind.0, kind.1)) (run_cuts (in_class Flag))
    (λ signs. then_cuts short_at (λ width r. precision_at r >>= λ precision. type_at precision.1 >>= λ kind. Ok (conv_of signs width precision.0 kind.0, kind.1)) short_cuts
    (λ width. then_cuts precision_at (λ precision r. type_at r >>= λ kind. Ok (conv_of signs width precision kind.0, kind.1)) precision_cuts
    (λ precision. then_cuts type_at (λ kind r. Ok (conv_of signs width precision kind, r)) type_cuts (λ kind. pure_cuts (conv_of signs width precision kind)))))

-- ---- fields

abbrev pub closed : List ExprView → Option (List ReplacementPart) → Option (List ℕ) → Bool → List ℕ → Reading FieldView
closed exprs replacement default bare r = mark_at Syntax 41 r >>= λ rest. conv_at rest >>= λ conv. Ok (field_of exprs replacement default conv.0 bare, conv.1)

closed_cuts : (exprs : List ExprView) (replacement : Option (List ReplacementPart)) (default : Option (List ℕ)) (bare : Bool) → Cuts (closed exprs replacement default bare)
closed_cuts exprs replacement default bare = mark_cuts Syntax 41 (λ rest. conv_at rest >>= λ conv. Ok (field_of exprs replacement default conv.0 bare, conv.1))
    (then_cuts conv_at (λ conv r. Ok (field_of exprs replacement default conv bare, r)) conv_cuts (λ conv. pure_cuts (field_of exprs replacement default conv bare)))

abbrev pub field_with : Bool → List ℕ → Reading FieldView
field_with bare t = exprs_at t >>= λ exprs. replacement_at exprs.1 >>= λ replacement. closed exprs.0 replacement.0 (default_of replacement.1).0 bare (default_of replacement.1).1

field_with_cuts : (bare : Bool) → Cuts (field_with bare)
field_with_cuts bare =
    then_cuts exprs_at (λ exprs r. replacement_at r >>= λ replacement. closed exprs replacement.0 (default_of replacement.1).0 bare (default_of replacement.1).1) exprs_cuts
    (λ exprs. then_cuts replacement_at (λ replacement r. closed exprs replacement (default_of r).0 bare (default_of r).1) replacement_cuts
    (λ replacement. then_cuts (λ r. given (default_of r)) (λ default r. closed exprs replacement default bare r) default_cuts (λ default. closed_cuts exprs replacement default bare)))

-- ---- whether a field is bare is told by the bytes up to its type

abbrev bare_at : ℕ → List ℕ → Bool
bare_at n t = is_at 41 (drop n t) && is_at 115 (drop 1 (drop n t))

bare_by : (v : Bool) (b : ℕ) (t : List ℕ) → bare_at (cond v (1 + prefix_len is_word_byte t) 0) (b ∷ t) ≡ cond v (is_bare t) ((b == 41) && is_at 115 t)
bare_by true b t = let one : 1 + prefix_len is_word_byte t ≡ suc (prefix_len is_word_byte t) = omega arith in ap (λ (k : ℕ). bare_at k (b ∷ t)) one
bare_by false b t = refl

bare_first : (b : ℕ) (t : List ℕ) → is_bare (b ∷ t) ≡ cond (is_word_byte b) (is_bare t) ((b == 41) && is_at 115 t)
bare_first b t = bare_by (is_word_byte b) b t

bare_same : (v m x x' y y' : Bool) → x ≡ x' → y ≡ y' → cond v x (m && y) ≡ cond v x' (m && y')
bare_same true m x x' y y' h k = h
bare_same false m x x' y y' h k = ap (λ (z : Bool). m && z) k

letter_before : (front : List ℕ) (b : ℕ) (u r r' : List ℕ) → is_at 115 (front ++ 41 ∷ b ∷ (u ++ r)) ≡ is_at 115 (front ++ 41 ∷ b ∷ (u ++ r'))
letter_before [] b u r r' = refl
letter_before (d ∷ front) b u r r' = refl

pub bare_front : (front : List ℕ) (b : ℕ) (u r r' : List ℕ) → is_bare (front ++ 41 ∷ b ∷ (u ++ r)) ≡ is_bare (front ++ 41 ∷ b ∷ (u ++ r'))
bare_front [] b u r r' = bare_first 41 (b ∷ (u ++ r)) ∙ sym (bare_first 41 (b ∷ (u ++ r')))
bare_front (d ∷ front) b u r r' =
    bare_first d (front ++ 41 ∷ b ∷ (u ++ r))
    ∙ bare_same (is_word_byte d) (d == 41) (is_bare (front ++ 41 ∷ b ∷ (u ++ r))) (is_bare (front ++ 41 ∷ b ∷ (u ++ r'))) (is_at 115 (front ++ 41 ∷ b ∷ (u ++ r))) (is_at 115 (front ++ 41 ∷ b ∷ (u ++ r'))) (bare_front front b u r r') (letter_before front b u r r')
    ∙ sym (bare_first d (front ++ 41 ∷ b ∷ (u ++ r')))

-- a text with a bracket and a byte behind it
pub record Closes (w : List ℕ) : Type 0 where
  pub front : List ℕ
  pub byte : ℕ
  pub rest : List ℕ
  pub is : w ≡ front ++ 41 ∷ byte ∷ rest

closes_behind : (a o w : List ℕ) → w ≡ a ++ o → Closes o → Closes w
closes_behind a o w e h = record { front = a ++ h.front; byte = h.byte; rest = h.rest; is = e ∙ ap (λ (l : List ℕ). a ++ l) h.is ∙ sym (append_assoc a h.front (41 ∷ h.byte ∷ h.rest)) }

closes_mark : (inner m other o : List ℕ) → 0 < length inner → m ≡ 41 ∷ inner → o ≡ m ++ other → Closes o
closes_mark [] m other o some e h = absurd (omega (arith, some))
closes_mark (b ∷ u) m other o some e h = record { front = []; byte = b; rest = u ++ other; is = h ∙ ap (λ (l : List ℕ). l ++ other) e }

type_some : (s r : List ℕ) (x : Kind) → IsType s r x → 0 < length s
type_some s r x (inl a) = omega (arith, ap length a.4)
type_some s r x (inr b) = omega (arith, ap length b.3)

longer : (t a b : List ℕ) → t ≡ a ++ b → 0 < length b → 0 < length t
longer t a b e some = omega (arith, ap length e, length-append a b, some)

longer_front : (t a b : List ℕ) → t ≡ a ++ b → 0 < length a → 0 < length t
longer_front t a b e some = omega (arith, ap length e, length-append a b, some)

conv_some : (s r : List ℕ) (x : Conv) → IsConv s r x → 0 < length s
conv_some s r x h =
    let width = h.4 in
    let precision = width.4 in
    let kind = precision.4 in
    longer s h.0 h.1 h.5 (longer h.1 width.0 width.1 width.5 (longer width.1 precision.0 precision.1 precision.5 (longer_front precision.1 kind.0 kind.1 kind.5 (type_some kind.0 (kind.1 ++ r) kind.2 kind.3))))

pub field_closes : (bare : Bool) (w q : List ℕ) (x : FieldView) → IsFieldBy bare w q x → Closes w
field_closes bare w q x h =
    let replacement = h.4 in
    let default = replacement.4 in
    let close = default.4 in
    closes_behind h.0 h.1 w h.5 (closes_behind replacement.0 replacement.1 h.1 replacement.5 (closes_behind default.0 default.1 replacement.1 default.5
    (closes_mark close.3.0 close.0 close.1 default.1 (conv_some close.3.0 (close.1 ++ q) close.2 close.3.1) close.3.2 close.5)))

pub closes_with : (w r : List ℕ) (h : Closes w) → w ++ r ≡ h.front ++ 41 ∷ h.byte ∷ (h.rest ++ r)
closes_with w r h = ap (λ (l : List ℕ). l ++ r) h.is ∙ append_assoc h.front (41 ∷ h.byte ∷ h.rest) r

bare_kept : (bare : Bool) (s c q : List ℕ) (x : FieldView) → TakesSo (IsFieldBy bare) s (x, q) → is_bare (s ++ c) ≡ is_bare s
bare_kept bare s c q x one =
    let h = field_closes bare one.0 q x one.1 in
    let whole : s ++ c ≡ one.0 ++ (q ++ c) = ap (λ (l : List ℕ). l ++ c) one.2 ∙ append_assoc one.0 q c in
    ap is_bare (whole ∙ closes_with one.0 (q ++ c) h) ∙ bare_front h.front h.byte h.rest (q ++ c) q ∙ ap is_bare (sym (closes_with one.0 q h) ∙ sym one.2)

-- ---- fields

end_by : {A B : Type 0} (r : Result A (TplKind × ℕ)) (f g : A → Reading B) → ((x : A) → AtEnd (f x) → AtEnd (g x)) → AtEnd (r >>= f) → AtEnd (r >>= g)
end_by (Ok x) f g law h = law x h
end_by (Err e) f g law h = h

closed_end : (exprs : List ExprView) (replacement : Option (List ReplacementPart)) (default : Option (List ℕ)) (v v' : Bool) (r : List ℕ) → AtEnd (closed exprs replacement default v r) → AtEnd (closed exprs replacement default v' r)
closed_end exprs replacement default v v' r h =
    end_by (mark_at Syntax 41 r) (λ rest. conv_at rest >>= λ conv. Ok (field_of exprs replacement default conv.0 v, conv.1)) (λ rest. conv_at rest >>= λ conv. Ok (field_of exprs replacement default conv.0 v', conv.1))
    (λ rest k. end_by (conv_at rest) (λ conv. Ok (field_of exprs replacement default conv.0 v, conv.1)) (λ conv. Ok (field_of exprs replacement default conv.0 v', conv.1)) (λ conv l. l) k) h

bare_end : (v v' : Bool) (t : List ℕ) → AtEnd (field_with v t) → AtEnd (field_with v' t)
bare_end v v' t h =
    end_by (exprs_at t) (λ exprs. replacement_at exprs.1 >>= λ replacement. closed exprs.0 replacement.0 (default_of replacement.1).0 v (default_of replacement.1).1) (λ exprs. replacement_at exprs.1 >>= λ replacement. closed exprs.0 replacement.0 (default_of replacement.1).0 v' (default_of replacement.1).1)
    (λ exprs k. end_by (replacement_at exprs.1) (λ replacement. closed exprs.0 replacement.0 (default_of replacement.1).0 v (default_of replacement.1).1) (λ replacement. closed exprs.0 replacement.0 (default_of replacement.1).0 v' (default_of replacement.1).1)
    (λ replacement l. closed_end exprs.0 replacement.0 (default_of replacement.1).0 v v' (default_of replacement.1).1 l) k) h

turned : (s c q : List ℕ) (x : FieldView) → ((field_with (is_bare (s ++ c)) s ≡ Ok (x, q)) ⊎ AtEnd (field_with (is_bare (s ++ c)) s)) → (field_with (is_bare s) s ≡ Ok (x, q)) ⊎ AtEnd (field_with (is_bare s) s)
turned s c q x (inl e) = inl (subst (λ (v : Bool). field_with v s ≡ Ok (x, q)) (bare_kept (is_bare (s ++ c)) s c q x (field_by_spells (is_bare (s ++ c)) s (x, q) e)) e)
turned s c q x (inr end) = inr (bare_end (is_bare (s ++ c)) (is_bare s) s end)

field_turn : (s c : List ℕ) (z : Reading FieldView) → CutsTo c z (field_with (is_bare (s ++ c)) s) → CutsTo c z (field_with (is_bare s) s)
field_turn s c (Ok p) law = λ big. let m = law big in (m.0, m.1, turned s c m.0 p.0 m.2)
field_turn s c (Err e) law = λ same. bare_end (is_bare (s ++ c)) (is_bare s) s (law same)

pub field_cuts : Cuts field_at
unfolding field_at
field_cuts = record {
  less = λ t. (field_with_cuts (is_bare t)).less t;
  none = (field_with_cuts (is_bare [])).none;
  cuts = λ s c. field_turn s c (field_with (is_bare (s ++ c)) (s ++ c)) ((field_with_cuts (is_bare (s ++ c))).cuts s c);
}
