-- A text that is refused as a filter could have gone on up to the fault's place.
use Rattle.std.proofs.Common.{◌≡◌, ℕ, Bool, true, false, ◌&&◌, ◌||◌, cond, List, [], ◌∷◌, ◌++◌, length, drop, Option, Some, None, Ok, Err, refl, sym, ap, subst, ◌∙◌, append_assoc, arith, inl, inr, ◌⊎◌}
use Rattle.std.specs.Prelude.{◌==◌, codes, pos}
use Rattle.std.proofs.lemmas.Bool.{eqb-true}
use Rattle.text_base.specs.Number.{Number, whole}
use Rattle.text_base.specs.Size.{size_of}
use Rattle.text_base.specs.Spelling.{digits_length}
use Rattle.text_base.specs.declared.fields.NumField.{NumField}
use Rattle.text_base.specs.declared.fields.NumField.TheVariants.{Width}
use Rattle.text_base.specs.declared.fields.TextField.{TextField}
use Rattle.text_pattern.proofs.EmptyLemmas.{empty_is_pattern}
use Rattle.read_base.specs.Reads.{Read, skip, is_at, run_at}
use Rattle.read_base.specs.Spelled.{IsGap, Spaced}
use Rattle.read_base.specs.Laws.{Opened, Opens, head_is}
use Rattle.read_base.proofs.StepLemmas.{bind_err, chosen, gap_parts, marked}
use Rattle.read_base.proofs.OpensLemmas.{sample_opens, left_is, run_left, opened_behind, spaced_opened, then_opens}
use Rattle.read_base.proofs.AgainLemmas.{gap_skipped}
use Rattle.read_base.proofs.SpellsLemmas.{spaced_spells}
use Rattle.sel_lang.specs.Plain.{PlainFilter}
use Rattle.sel_lang.specs.Marks.{is_field_byte, is_value_byte}
use Rattle.sel_lang.specs.Filters.{field_named, found, field_at, num_op_at, plain_op, negated_op, text_op_at, has_mark, behind_mark, marked_at, num_value_at, unquoted, closed_quote, text_value_at, can_have, value_start, tested_at, ended, num_filter_at, text_filter_at, tail_at, filter_at}
use Rattle.sel_lang.specs.Spelled.{IsField, num_op_text, text_op_text, IsMarked, IsNumValue, IsQuoted, IsTextValue, IsEnd, IsNumFilter, IsTextFilter, IsTail, IsFilter}
use Rattle.sel_lang.specs.declared.filter.NumOp.{NumOp}
use Rattle.sel_lang.specs.declared.filter.NumOp.TheVariants as nums
use Rattle.sel_lang.specs.declared.filter.TextOp.{TextOp}
use Rattle.sel_lang.specs.declared.filter.TextOp.TheVariants as texts
use Rattle.sel_lang.specs.declared.field_name.FieldName.{FieldName}
use Rattle.sel_lang.specs.declared.field_name.FieldName.TheVariants as names
use Rattle.sel_lang.specs.declared.sel_kind.SelKind.{SelKind}
use Rattle.sel_lang.specs.declared.sel_kind.SelKind.TheVariants.{Syntax, Quote, Field, Value, Regex}
use Rattle.sel_lang.proofs.PlaceLemmas.{false_true}
use Rattle.sel_lang.proofs.FilterParts.{num_made, num_value, num_rest, IsNumRest, text_made, text_value, text_rest, IsTextRest}
use Rattle.sel_lang.proofs.FilterSpellsLemmas.{field_spells, num_op_spells, text_op_spells, marked_spells, num_value_spells, tested_spells}

-- any byte may stand at a fault's place
abbrev pub any : ℕ → Bool
any b = true

pub any_head : (t : List ℕ) → head_is any t ≡ true
any_head [] = refl
any_head (b ∷ t) = refl

-- what fails at its start can become a sample
pub opens_as : {A : Type 0} (P : List ℕ → A → Type 0) (t s : List ℕ) (x : A) (left : ℕ) → P s x → left ≡ length t → Opened any P t left
opens_as P t s x left h e = sample_opens any P t s x left h (any_head t) e

-- behind spaces
pub spaced_opens : {A : Type 0} (item : List ℕ → Read SelKind A) (P : List ℕ → A → Type 0) → Opens any item P → Opens any (λ t. item (skip t)) (Spaced P)
spaced_opens item P law t d e = spaced_opened any P t d.1 (law (skip t) d e)

found_left : {A : Type 0} (kind : SelKind) (t rest : List ℕ) (o : Option A) (d : SelKind × ℕ) → found kind t o rest ≡ Err d → d.1 ≡ length t
found_left kind t rest (Some x) d e = absurd cc
found_left {A} kind t rest None d e = left_is {A = A × List ℕ} kind (length t) d e

width : IsField (codes "width") (names.Num Width)
unfolding field_named
width = (omega arith, (refl, (refl, (refl, (refl, (refl, tt))))), refl)

pub field_left : (t : List ℕ) (d : SelKind × ℕ) → field_at t ≡ Err d → d.1 ≡ length t
unfolding field_at
field_left t d e = elim (bind_err (run_at Syntax is_field_byte t) (λ word. found Field t (field_named word.0) word.1) d e) [
  | inl h ↦ run_left Syntax is_field_byte t d h
  | inr h ↦ found_left Field t h.0.1 (field_named h.0.0) d h.2
]

field_opens : Opens any field_at IsField
field_opens t d e = opens_as IsField t (codes "width") (names.Num Width) d.1 width (field_left t d e)

pub num_op_left : (t : List ℕ) (d : SelKind × ℕ) → num_op_at t ≡ Err d → d.1 ≡ length t
unfolding num_op_at
num_op_left t d e = elim (chosen (is_at 60 t) _ _ _ e) [
  | inl h ↦ absurd cc
  | inr h ↦ elim (chosen (is_at 62 t) _ _ _ h.1) [
    | inl k ↦ absurd cc
    | inr k ↦ elim (chosen (is_at 61 t) _ _ _ k.1) [
      | inl m ↦ absurd cc
      | inr m ↦ elim (chosen (is_at 33 t && is_at 61 (drop 1 t)) _ _ _ m.1) [
        | inl n ↦ absurd cc
        | inr n ↦ left_is {A = NumOp × List ℕ} Syntax (length t) d n.1
      ]
    ]
  ]
]

num_op_opens : Opens any num_op_at (λ s op. s ≡ num_op_text op)
num_op_opens t d e = opens_as (λ s op. s ≡ num_op_text op) t (codes "=") nums.Eq d.1 refl (num_op_left t d e)

negated_left : (t : List ℕ) (negated : Bool) (o : Option (TextOp × List ℕ)) (d : SelKind × ℕ) → negated_op t negated o ≡ Err d → d.1 ≡ length t
negated_left t negated (Some op) d e = absurd cc
negated_left t negated None d e = left_is {A = (TextOp × Bool) × List ℕ} Syntax (length t) d e

pub text_op_left : (t : List ℕ) (d : SelKind × ℕ) → text_op_at t ≡ Err d → d.1 ≡ length t
unfolding text_op_at
text_op_left t d e = elim (chosen (is_at 33 t) _ _ _ e) [
  | inl h ↦ negated_left t true (plain_op (drop 1 t)) d h.1
  | inr h ↦ negated_left t false (plain_op t) d h.1
]

text_op_opens : Opens any text_op_at (λ s op. s ≡ text_op_text op)
text_op_opens t d e = opens_as (λ s op. s ≡ text_op_text op) t (codes "=") (texts.Eq, false) d.1 refl (text_op_left t d e)

-- ---- `?`

one_gap : (gap r : List ℕ) → (gap ++ 63 ∷ []) ++ r ≡ gap ++ 63 ∷ r
one_gap gap r = append_assoc gap (63 ∷ []) r

-- what the value can be must not begin with the mark
marked_by : {A : Type 0} (v : Bool) (P Q : List ℕ → A → Type 0) (t : List ℕ) (left : ℕ) → ((s : List ℕ) (x : A) → Q s x → P s x) → ((s : List ℕ) (x : A) → Q s x → has_mark s ≡ false)
    → has_mark t ≡ v → Opened any Q (cond v (drop 1 (skip t)) t) left → Opened any (IsMarked P) t left
marked_by {A} true P Q t left weaker bare h o =
    let gap = gap_parts t in
    let parts : t ≡ (gap.0 ++ 63 ∷ []) ++ drop 1 (skip t) = gap.2 ∙ ap (λ (l : List ℕ). gap.0 ++ l) (marked 63 (skip t) h) ∙ sym (one_gap gap.0 (drop 1 (skip t))) in
    opened_behind any Q (IsMarked P) (gap.0 ++ 63 ∷ []) t (drop 1 (skip t)) left parts (λ x. (true, x))
    (λ r x is. (gap.0, r, gap.1, weaker r x is, one_gap gap.0 r)) o
marked_by false P Q t left weaker bare h o =
    record { front = o.front; behind = o.behind; rest = o.rest; value = (false, o.value); is = (weaker (o.front ++ o.behind) o.value o.is, bare (o.front ++ o.behind) o.value o.is); parts = o.parts; len = o.len; solid = o.solid }

marked_opens : {A : Type 0} (value : List ℕ → Read SelKind A) (P Q : List ℕ → A → Type 0) → ((s : List ℕ) (x : A) → Q s x → P s x) → ((s : List ℕ) (x : A) → Q s x → has_mark s ≡ false) → Opens any value Q → Opens any (marked_at value) (IsMarked P)
unfolding marked_at
marked_opens value P Q weaker bare law t d e = elim (bind_err (value (behind_mark t)) (λ x. Ok ((has_mark t, x.0), x.1)) d e) [
  | inl h ↦ marked_by (has_mark t) P Q t d.1 weaker bare refl (law (behind_mark t) d h)
  | inr h ↦ absurd cc
]

-- spaces before what does not begin with the mark
gap_bare : (gap rest : List ℕ) → IsGap gap → is_at 63 (skip rest) ≡ false → has_mark (gap ++ rest) ≡ false
gap_bare gap rest h k = ap (is_at 63) (gap_skipped gap rest h) ∙ k

spaced_bare : {A : Type 0} (P : List ℕ → A → Type 0) → ((s : List ℕ) (x : A) → P s x → has_mark s ≡ false) → (s : List ℕ) (x : A) → Spaced P s x → has_mark s ≡ false
spaced_bare P bare s x h = ap has_mark h.parts ∙ gap_bare h.gap h.rest h.is_gap (bare h.rest x h.is)

-- ---- values

one : IsNumValue (codes "1") (whole (pos 1))
unfolding digits_length
one = (omega arith, (refl, tt), refl)

pub num_value_left : (t : List ℕ) (d : SelKind × ℕ) → num_value_at t ≡ Err d → d.1 ≡ length t
unfolding num_value_at
num_value_left t d e = elim (bind_err (run_at Syntax is_value_byte t) (λ word. found Value t (size_of 1000 word.0) word.1) d e) [
  | inl h ↦ run_left Syntax is_value_byte t d h
  | inr h ↦ found_left Value t h.0.1 (size_of 1000 h.0.0) d h.2
]

num_value_opens : Opens any num_value (Spaced IsNumValue)
num_value_opens = spaced_opens num_value_at IsNumValue (λ t d e. opens_as IsNumValue t (codes "1") (whole (pos 1)) d.1 one (num_value_left t d e))

no_size : (s : List ℕ) → size_of 1000 (63 ∷ s) ≡ None
unfolding digits_length
no_size s = refl

abbrev nothing : Option Number
nothing = None

none_some : (n : Number) → nothing ≡ Some n → ⊥
none_some n e = absurd cc

-- the first byte is none of a space, and no size begins with the mark
bare_by : (v w : Bool) (b : ℕ) (s : List ℕ) (n : Number) → (b == 32) ≡ v → (b == 63) ≡ w → is_value_byte b ≡ true → size_of 1000 (b ∷ s) ≡ Some n → is_at 63 (cond v (skip s) (b ∷ s)) ≡ false
bare_by true w b s n h k all e =
    let space : is_value_byte 32 ≡ true = subst (λ (c : ℕ). is_value_byte c ≡ true) (eqb-true b 32 h) all in
    absurd (false_true space)
bare_by false true b s n h k all e =
    let at : size_of 1000 (63 ∷ s) ≡ Some n = subst (λ (c : ℕ). size_of 1000 (c ∷ s) ≡ Some n) (eqb-true b 63 k) e in
    absurd (none_some n (sym (no_size s) ∙ at))
bare_by false false b s n h k all e = k

num_bare : (s : List ℕ) (n : Number) → IsNumValue s n → has_mark s ≡ false
num_bare [] n h = refl
num_bare (b ∷ s) n h = bare_by (b == 32) (b == 63) b s n refl refl h.1.0 h.2

-- a value between quotes
abbrev IsQuotedValue : TextOp → List ℕ → List ℕ → Type 0
IsQuotedValue op s value = (IsQuoted 34 s value ⊎ IsQuoted 39 s value) × (can_have op value ≡ true)

quoted_weaker : (op : TextOp) (s value : List ℕ) → IsQuotedValue op s value → IsTextValue op s value
quoted_weaker op s value (inl h, k) = (inl h, k)
quoted_weaker op s value (inr h, k) = (inr (inl h), k)

quoted_bare : (op : TextOp) (s value : List ℕ) → IsQuotedValue op s value → has_mark s ≡ false
quoted_bare op s value (inl h, k) = ap has_mark h.2
quoted_bare op s value (inr h, k) = ap has_mark h.2

no_text : (op : TextOp) → can_have op [] ≡ true
no_text texts.Eq = refl
no_text texts.Prefix = refl
no_text texts.Suffix = refl
no_text texts.Contains = refl
no_text texts.Matches = empty_is_pattern

quotes_34 : (op : TextOp) → IsQuotedValue op (34 ∷ 34 ∷ []) []
quotes_34 op = (inl ([], refl, refl), no_text op)

quotes_39 : (op : TextOp) → IsQuotedValue op (39 ∷ 39 ∷ []) []
quotes_39 op = (inr ([], refl, refl), no_text op)

closed_left : (t : List ℕ) (o : Option (List ℕ × List ℕ)) (d : SelKind × ℕ) → closed_quote t o ≡ Err d → d.1 ≡ length t
closed_left t (Some x) d e = absurd cc
closed_left t None d e = left_is {A = List ℕ × List ℕ} Quote (length t) d e

pub text_value_left : (t : List ℕ) (d : SelKind × ℕ) → text_value_at t ≡ Err d → d.1 ≡ length t
unfolding text_value_at
text_value_left t d e = elim (chosen (is_at 34 t) _ _ _ e) [
  | inl h ↦ closed_left t (unquoted 34 false (drop 1 t)) d h.1
  | inr h ↦ elim (chosen (is_at 39 t) _ _ _ h.1) [
    | inl k ↦ closed_left t (unquoted 39 false (drop 1 t)) d k.1
    | inr k ↦ run_left Syntax is_value_byte t d k.1
  ]
]

-- behind a quote
behind_quote : (op : TextOp) (quote : ℕ) (t : List ℕ) (left : ℕ) → IsQuotedValue op (quote ∷ quote ∷ []) [] → is_at quote t ≡ true → left ≡ length (drop 1 t) → Opened any (IsQuotedValue op) t left
behind_quote op quote t left is h e = record { front = quote ∷ []; behind = quote ∷ []; rest = drop 1 t; value = []; is = is; parts = marked quote t h; len = sym e; solid = any_head (drop 1 t) }

start_by : (op : TextOp) (v w : Bool) (t : List ℕ) (left : ℕ) → is_at 34 t ≡ v → is_at 39 t ≡ w → left ≡ length (cond (v || w) (drop 1 t) t) → Opened any (IsQuotedValue op) t left
start_by op true w t left h k e = behind_quote op 34 t left (quotes_34 op) h e
start_by op false true t left h k e = behind_quote op 39 t left (quotes_39 op) k e
start_by op false false t left h k e = opens_as (IsQuotedValue op) t (34 ∷ 34 ∷ []) [] left (quotes_34 op) e

tested_opens : (op : TextOp) → Opens any (text_value op) (Spaced (IsQuotedValue op))
unfolding tested_at
tested_opens op = spaced_opens (tested_at op) (IsQuotedValue op) (λ t d e. elim (bind_err (text_value_at t) (λ value. cond (can_have op value.0) (Ok value) (Err (Regex, length (value_start t)))) d e) [
  | inl h ↦ opens_as (IsQuotedValue op) t (34 ∷ 34 ∷ []) [] d.1 (quotes_34 op) (text_value_left t d h)
  | inr h ↦ elim (chosen (can_have op h.0.0) _ _ _ h.2) [
    | inl k ↦ absurd cc
    | inr k ↦ start_by op (is_at 34 t) (is_at 39 t) t d.1 refl refl (left_is {A = List ℕ × List ℕ} Regex (length (value_start t)) d k.1)
  ]
])

-- ---- the whole

ended_opens : (x : PlainFilter) → Opens any (ended x) (IsEnd x)
ended_opens x t d e = elim (chosen (is_at 93 (skip t)) _ _ _ e) [
  | inl h ↦ absurd cc
  | inr h ↦
      let gap = gap_parts t in
      record { front = gap.0; behind = 93 ∷ []; rest = skip t; value = x; is = (gap.0, gap.1, refl, refl); parts = gap.2; len = sym (left_is {A = PlainFilter × List ℕ} Syntax (length (skip t)) d h.1); solid = any_head (skip t) }
]

end_sample : (x : PlainFilter) → (s : List ℕ) × (y : PlainFilter) × IsEnd x s y
end_sample x = (93 ∷ [], x, ([], tt, refl, refl))

spaced_one : Spaced IsNumValue (codes "1") (whole (pos 1))
spaced_one = record { gap = []; rest = codes "1"; is_gap = tt; is = one; parts = refl }

spaced_weaker : (op : TextOp) (s value : List ℕ) → Spaced (IsQuotedValue op) s value → Spaced (IsTextValue op) s value
spaced_weaker op s value h = record { gap = h.gap; rest = h.rest; is_gap = h.is_gap; is = quoted_weaker op h.rest value h.is; parts = h.parts }

num_rest_opens : (field : NumField) (op : NumOp) → Opens any (num_rest field op) (IsNumRest field op)
num_rest_opens field op =
    then_opens any (marked_at num_value) (λ value. ended (num_made field op value)) (IsMarked (Spaced IsNumValue)) (λ value. IsEnd (num_made field op value))
    (marked_spells num_value (Spaced IsNumValue) (spaced_spells num_value_at IsNumValue num_value_spells))
    (marked_opens num_value (Spaced IsNumValue) (Spaced IsNumValue) (λ s x h. h) (spaced_bare IsNumValue num_bare) num_value_opens)
    (λ value. ended_opens (num_made field op value)) (λ value. end_sample (num_made field op value))

num_sample : (field : NumField) (op : NumOp) → (s : List ℕ) × (y : PlainFilter) × IsNumRest field op s y
num_sample field op = (codes "1]", num_made field op (false, whole (pos 1)), (codes "1", codes "]", (false, whole (pos 1)), (spaced_one, refl), ([], tt, refl, refl), refl))

num_opens : (field : NumField) → Opens any (num_filter_at field) (IsNumFilter field)
unfolding num_filter_at
num_opens field =
    then_opens any (λ t. num_op_at (skip t)) (num_rest field) (Spaced (λ s op. s ≡ num_op_text op)) (IsNumRest field)
    (spaced_spells num_op_at (λ s op. s ≡ num_op_text op) num_op_spells) (spaced_opens num_op_at (λ s op. s ≡ num_op_text op) num_op_opens)
    (num_rest_opens field) (num_sample field)

text_rest_opens : (field : TextField) (op : TextOp × Bool) → Opens any (text_rest field op) (IsTextRest field op)
text_rest_opens field op =
    then_opens any (marked_at (text_value op.0)) (λ value. ended (text_made field op value)) (IsMarked (Spaced (IsTextValue op.0))) (λ value. IsEnd (text_made field op value))
    (marked_spells (text_value op.0) (Spaced (IsTextValue op.0)) (spaced_spells (tested_at op.0) (IsTextValue op.0) (tested_spells op.0)))
    (marked_opens (text_value op.0) (Spaced (IsTextValue op.0)) (Spaced (IsQuotedValue op.0)) (spaced_weaker op.0) (spaced_bare (IsQuotedValue op.0) (quoted_bare op.0)) (tested_opens op.0))
    (λ value. ended_opens (text_made field op value)) (λ value. end_sample (text_made field op value))

text_sample : (field : TextField) (op : TextOp × Bool) → (s : List ℕ) × (y : PlainFilter) × IsTextRest field op s y
text_sample field op =
    let value : Spaced (IsTextValue op.0) (34 ∷ 34 ∷ []) [] = record { gap = []; rest = 34 ∷ 34 ∷ []; is_gap = tt; is = quoted_weaker op.0 (34 ∷ 34 ∷ []) [] (quotes_34 op.0); parts = refl } in
    (34 ∷ 34 ∷ 93 ∷ [], text_made field op (false, []), (34 ∷ 34 ∷ [], 93 ∷ [], (false, []), (value, refl), ([], tt, refl, refl), refl))

text_opens : (field : TextField) → Opens any (text_filter_at field) (IsTextFilter field)
unfolding text_filter_at
text_opens field =
    then_opens any (λ t. text_op_at (skip t)) (text_rest field) (Spaced (λ s op. s ≡ text_op_text op)) (IsTextRest field)
    (spaced_spells text_op_at (λ s op. s ≡ text_op_text op) text_op_spells) (spaced_opens text_op_at (λ s op. s ≡ text_op_text op) text_op_opens)
    (text_rest_opens field) (text_sample field)

tail_opens : (field : FieldName) → Opens any (tail_at field) (IsTail field)
tail_opens (names.Num field) = num_opens field
tail_opens (names.Text field) = text_opens field

spaced_equal : {A : Type 0} (P : List ℕ → A → Type 0) (s : List ℕ) (x : A) → P s x → Spaced P s x
spaced_equal P s x h = record { gap = []; rest = s; is_gap = tt; is = h; parts = refl }

tail_sample : (field : FieldName) → (s : List ℕ) × (y : PlainFilter) × IsTail field s y
tail_sample (names.Num field) =
    let rest = num_sample field nums.Eq in
    (61 ∷ rest.0, rest.1, (61 ∷ [], rest.0, nums.Eq, spaced_equal (λ s op. s ≡ num_op_text op) (61 ∷ []) nums.Eq refl, rest.2, refl))
tail_sample (names.Text field) =
    let rest = text_sample field (texts.Eq, false) in
    (61 ∷ rest.0, rest.1, (61 ∷ [], rest.0, (texts.Eq, false), spaced_equal (λ s op. s ≡ text_op_text op) (61 ∷ []) (texts.Eq, false) refl, rest.2, refl))

pub filter_opens : Opens any filter_at IsFilter
unfolding filter_at
filter_opens = then_opens any (λ t. field_at (skip t)) tail_at (Spaced IsField) IsTail (spaced_spells field_at IsField field_spells) (spaced_opens field_at IsField field_opens) tail_opens tail_sample
