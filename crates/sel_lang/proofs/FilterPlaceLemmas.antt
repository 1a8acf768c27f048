-- No settled fault of a filter stands at a space.
use Rattle.std.proofs.Common.{◌≡◌, ℕ, Bool, true, false, cond, List, [], ◌++◌, length, take, drop, Ok, Err, refl, sym, ap, ◌∙◌, inl, inr}
use Rattle.std.proofs.lemmas.List.{take-append-drop}
use Rattle.text_base.specs.declared.fields.NumField.{NumField}
use Rattle.text_base.specs.declared.fields.TextField.{TextField}
use Rattle.read_base.specs.Reads.{◌>>=◌, Read, skip, is_at}
use Rattle.read_base.specs.Laws.{head_is}
use Rattle.read_base.proofs.StepLemmas.{bind_err, err_is, chosen, gap_parts}
use Rattle.read_base.proofs.SpellsLemmas.{two_parts}
use Rattle.read_base.proofs.OpensLemmas.{left_is}
use Rattle.sel_lang.specs.Plain.{PlainFilter}
use Rattle.sel_lang.specs.Places.{is_settled}
use Rattle.sel_lang.specs.Filters.{field_at, num_op_at, text_op_at, has_mark, behind_mark, marked_at, num_value_at, text_value_at, can_have, value_start, tested_at, ended, num_filter_at, text_filter_at, tail_at, filter_at}
use Rattle.sel_lang.specs.Spelled.{IsField, num_op_text, text_op_text, IsNumValue, IsTextValue}
use Rattle.sel_lang.specs.declared.filter.TextOp.{TextOp}
use Rattle.sel_lang.specs.declared.field_name.FieldName.{FieldName}
use Rattle.sel_lang.specs.declared.field_name.FieldName.TheVariants as names
use Rattle.sel_lang.specs.declared.sel_kind.SelKind.{SelKind}
use Rattle.sel_lang.specs.declared.sel_kind.SelKind.TheVariants.{Syntax, Regex}
use Rattle.sel_lang.proofs.FilterParts.{num_made, num_value, num_rest, text_made, text_value, text_rest}
use Rattle.sel_lang.proofs.FilterSpellsLemmas.{field_spells, num_op_spells, text_op_spells, num_value_spells, tested_spells, ended_spells}
use Rattle.sel_lang.proofs.FilterOpensLemmas.{field_left, num_op_left, text_op_left, num_value_left, text_value_left}
use Rattle.sel_lang.proofs.PlaceLemmas.{no_space, Stands, false_true, skip_solid, stands_behind, spaced_stands, bind_stands, piece_stands}

field_stands : (t : List ℕ) → head_is no_space t ≡ true → Stands t (field_at t)
field_stands t h = piece_stands IsField field_at t field_spells (λ d e l. field_left t d e) h

num_op_stands : (t : List ℕ) → head_is no_space t ≡ true → Stands t (num_op_at t)
num_op_stands t h = piece_stands (λ s op. s ≡ num_op_text op) num_op_at t num_op_spells (λ d e l. num_op_left t d e) h

text_op_stands : (t : List ℕ) → head_is no_space t ≡ true → Stands t (text_op_at t)
text_op_stands t h = piece_stands (λ s op. s ≡ text_op_text op) text_op_at t text_op_spells (λ d e l. text_op_left t d e) h

num_value_stands : (t : List ℕ) → Stands t (num_value t)
num_value_stands t = spaced_stands t (num_value_at (skip t)) (piece_stands IsNumValue num_value_at (skip t) num_value_spells (λ d e l. num_value_left (skip t) d e) (skip_solid t))

-- the fault of a pattern is not settled
abbrev refused : SelKind × ℕ → Read SelKind (List ℕ)
refused d = Err d

unsettled_regex : (n : ℕ) (d : SelKind × ℕ) → refused (Regex, n) ≡ Err d → is_settled d.0 ≡ true → ⊥
unsettled_regex n d e l = false_true (ap (λ (z : SelKind × ℕ). is_settled z.0) (err_is {A = List ℕ × List ℕ} (Regex, n) d e) ∙ l)

tested_left : (op : TextOp) (t : List ℕ) (d : SelKind × ℕ) → tested_at op t ≡ Err d → is_settled d.0 ≡ true → d.1 ≡ length t
unfolding tested_at
tested_left op t d e l = elim (bind_err (text_value_at t) (λ value. cond (can_have op value.0) (Ok value) (Err (Regex, length (value_start t)))) d e) [
  | inl h ↦ text_value_left t d h
  | inr h ↦ elim (chosen (can_have op h.0.0) _ _ _ h.2) [
    | inl k ↦ absurd cc
    | inr k ↦ absurd (unsettled_regex (length (value_start t)) d k.1 l)
  ]
]

text_value_stands : (op : TextOp) (t : List ℕ) → Stands t (text_value op t)
text_value_stands op t = spaced_stands t (tested_at op (skip t)) (piece_stands (IsTextValue op) (tested_at op) (skip t) (tested_spells op) (λ d e l. tested_left op (skip t) d e l) (skip_solid t))

-- ---- `?`

mark_parts : (v : Bool) (t : List ℕ) → (g : List ℕ) × (t ≡ g ++ cond v (drop 1 (skip t)) t)
mark_parts true t = let gap = gap_parts t in (gap.0 ++ take 1 (skip t), two_parts t (skip t) gap.0 (take 1 (skip t)) (drop 1 (skip t)) gap.2 (sym (take-append-drop 1 (skip t))))
mark_parts false t = ([], refl)

marked_stands : {A : Type 0} (value : List ℕ → Read SelKind A) → ((t : List ℕ) → Stands t (value t)) → (t : List ℕ) → Stands t (marked_at value t)
unfolding marked_at
marked_stands value law t =
    let g = mark_parts (has_mark t) t in
    stands_behind g.0 (behind_mark t) t (value (behind_mark t) >>= λ x. Ok ((has_mark t, x.0), x.1)) g.1
    (bind_stands (behind_mark t) (value (behind_mark t)) (λ x r. Ok ((has_mark t, x), r)) (law (behind_mark t)) (λ x r. ([], refl)))

-- ---- the whole

ended_by : (x : PlainFilter) (t : List ℕ) (z : Read SelKind PlainFilter) → ended x t ≡ z → Stands t z
ended_by x t (Ok p) e = let one = ended_spells x t p e in (one.0, one.2)
ended_by x t (Err d) e = elim (chosen (is_at 93 (skip t)) _ _ _ e) [
  | inl h ↦ absurd cc
  | inr h ↦
      let gap = gap_parts t in
      let left : d.1 ≡ length (skip t) = left_is {A = PlainFilter × List ℕ} Syntax (length (skip t)) d h.1 in
      λ l. (gap.0, skip t, gap.2, sym left, skip_solid t)
]

ended_stands : (x : PlainFilter) (t : List ℕ) → Stands t (ended x t)
ended_stands x t = ended_by x t (ended x t) refl

num_stands : (field : NumField) (t : List ℕ) → Stands t (num_filter_at field t)
unfolding num_filter_at
num_stands field t = bind_stands t (num_op_at (skip t)) (num_rest field) (spaced_stands t (num_op_at (skip t)) (num_op_stands (skip t) (skip_solid t)))
    (λ op r. bind_stands r (marked_at num_value r) (λ value. ended (num_made field op value)) (marked_stands num_value num_value_stands r) (λ value q. ended_stands (num_made field op value) q))

text_stands : (field : TextField) (t : List ℕ) → Stands t (text_filter_at field t)
unfolding text_filter_at
text_stands field t = bind_stands t (text_op_at (skip t)) (text_rest field) (spaced_stands t (text_op_at (skip t)) (text_op_stands (skip t) (skip_solid t)))
    (λ op r. bind_stands r (marked_at (text_value op.0) r) (λ value. ended (text_made field op value)) (marked_stands (text_value op.0) (text_value_stands op.0) r) (λ value q. ended_stands (text_made field op value) q))

tail_stands : (field : FieldName) (t : List ℕ) → Stands t (tail_at field t)
tail_stands (names.Num field) t = num_stands field t
tail_stands (names.Text field) t = text_stands field t

pub filter_stands : (t : List ℕ) → Stands t (filter_at t)
unfolding filter_at
filter_stands t = bind_stands t (field_at (skip t)) tail_at (spaced_stands t (field_at (skip t)) (field_stands (skip t) (skip_solid t))) tail_stands
