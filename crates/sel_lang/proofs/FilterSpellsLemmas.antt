-- What is read as a filter is spelled so.
use Rattle.std.proofs.Common.{◌≡◌, ℕ, Bool, true, false, ◌&&◌, cond, List, [], ◌∷◌, ◌++◌, length, drop, Option, Some, None, Result, Ok, Err, refl, sym, ap, subst, ◌∙◌, append_assoc, inl, inr, ◌⊎◌}
use Rattle.std.specs.Prelude.{◌==◌, codes}
use Rattle.std.proofs.lemmas.Bool.{eqb-true}
use Rattle.text_base.specs.Size.{size_of}
use Rattle.text_base.specs.declared.fields.NumField.{NumField}
use Rattle.text_base.specs.declared.fields.TextField.{TextField}
use Rattle.read_base.specs.Reads.{Read, skip, is_at, run_at}
use Rattle.read_base.specs.Spelled.{Spaced}
use Rattle.read_base.specs.Laws.{Takes, Spells}
use Rattle.read_base.proofs.StepLemmas.{bind_ok, ok_is, chosen, gap_parts, marked, run_is}
use Rattle.read_base.proofs.SpellsLemmas.{spaced_spells, then_spells}
use Rattle.sel_lang.specs.Plain.{PlainFilter}
use Rattle.sel_lang.specs.Marks.{is_field_byte, is_value_byte}
use Rattle.sel_lang.specs.Filters.{field_named, found, field_at, num_op_at, op_mark, with_equal, plain_op, negated_op, text_op_at, has_mark, behind_mark, marked_at, num_value_at, put, unquoted, closed_quote, text_value_at, can_have, value_start, tested_at, ended, num_filter_at, text_filter_at, tail_at, filter_at}
use Rattle.sel_lang.specs.Spelled.{IsField, num_op_text, plain_op_text, text_op_text, IsMarked, IsNumValue, IsRun, IsBody, IsQuoted, IsTextValue, IsEnd, IsNumFilter, IsTextFilter, IsTail, IsFilter}
use Rattle.sel_lang.specs.declared.filter.NumOp.{NumOp}
use Rattle.sel_lang.specs.declared.filter.NumOp.TheVariants as nums
use Rattle.sel_lang.specs.declared.filter.TextOp.{TextOp}
use Rattle.sel_lang.specs.declared.filter.TextOp.TheVariants as texts
use Rattle.sel_lang.specs.declared.field_name.FieldName.{FieldName}
use Rattle.sel_lang.specs.declared.field_name.FieldName.TheVariants as names
use Rattle.sel_lang.specs.declared.sel_kind.SelKind.{SelKind}
use Rattle.sel_lang.specs.declared.sel_kind.SelKind.TheVariants.{Syntax, Field, Value, Regex}
use Rattle.sel_lang.proofs.FilterParts.{num_made, num_value, num_rest, IsNumRest, text_made, text_value, text_rest, IsTextRest}

abbrev read : {A : Type 0} → A → Result A (SelKind × ℕ)
read x = Ok x

read_is : {A : Type 0} (x y : A) → read x ≡ read y → x ≡ y
read_is x y e = ok_is {K = SelKind} x y e

found_is : {A : Type 0} (kind : SelKind) (t rest : List ℕ) (o : Option A) (p : A × List ℕ) → found kind t o rest ≡ Ok p → (o ≡ Some p.0) × (rest ≡ p.1)
found_is {A} kind t rest (Some x) p e =
    let q = read_is (x, rest) p e in
    (ap (λ (z : A × List ℕ). Some z.0) q, ap (λ (z : A × List ℕ). z.1) q)
found_is kind t rest None p e = absurd cc

pub field_spells : Spells field_at IsField
unfolding field_at
field_spells t p e =
    let a = bind_ok (run_at Syntax is_field_byte t) (λ word. found Field t (field_named word.0) word.1) p e in
    let run = run_is Syntax is_field_byte t a.0 a.1 in
    let b = found_is Field t a.0.1 (field_named a.0.0) p a.2 in
    (a.0.0, (run.some, run.all, b.0), run.parts ∙ ap (λ (l : List ℕ). a.0.0 ++ l) b.1)

-- ---- operators

num_op_made : (t s r : List ℕ) (o : NumOp) (p : NumOp × List ℕ) → s ≡ num_op_text o → t ≡ s ++ r → read (o, r) ≡ Ok p → Takes (λ s o. s ≡ num_op_text o) t p
num_op_made t s r o p h parts e = subst (λ (q : NumOp × List ℕ). Takes (λ s o. s ≡ num_op_text o) t q) (read_is (o, r) p e) (s, h, parts)

or_by : (v : Bool) (mark : ℕ) (t : List ℕ) (with without : NumOp) (p : NumOp × List ℕ) → is_at mark t ≡ true → is_at 61 (drop 1 t) ≡ v
    → mark ∷ 61 ∷ [] ≡ num_op_text with → mark ∷ [] ≡ num_op_text without
    → read (cond v (with, drop 1 (drop 1 t)) (without, drop 1 t)) ≡ Ok p → Takes (λ s o. s ≡ num_op_text o) t p
or_by true mark t with without p h k w v e = num_op_made t (mark ∷ 61 ∷ []) (drop 1 (drop 1 t)) with p w (marked mark t h ∙ ap (λ (l : List ℕ). mark ∷ l) (marked 61 (drop 1 t) k)) e
or_by false mark t with without p h k w v e = num_op_made t (mark ∷ []) (drop 1 t) without p v (marked mark t h) e

both : (a b : Bool) → a && b ≡ true → (a ≡ true) × (b ≡ true)
both true b h = (refl, h)
both false b h = absurd cc

pub num_op_spells : Spells num_op_at (λ s o. s ≡ num_op_text o)
unfolding num_op_at
num_op_spells t p e = elim (chosen (is_at 60 t) _ _ _ e) [
  | inl h ↦ or_by (is_at 61 (drop 1 t)) 60 t nums.Le nums.Lt p h.0 refl refl refl h.1
  | inr h ↦ elim (chosen (is_at 62 t) _ _ _ h.1) [
    | inl k ↦ or_by (is_at 61 (drop 1 t)) 62 t nums.Ge nums.Gt p k.0 refl refl refl k.1
    | inr k ↦ elim (chosen (is_at 61 t) _ _ _ k.1) [
      | inl m ↦ num_op_made t (codes "=") (drop 1 t) nums.Eq p refl (marked 61 t m.0) m.1
      | inr m ↦ elim (chosen (is_at 33 t && is_at 61 (drop 1 t)) _ _ _ m.1) [
        | inl n ↦
            let two = both (is_at 33 t) (is_at 61 (drop 1 t)) n.0 in
            num_op_made t (codes "!=") (drop 1 (drop 1 t)) nums.Ne p refl (marked 33 t two.0 ∙ ap (λ (l : List ℕ). 33 ∷ l) (marked 61 (drop 1 t) two.1)) n.1
        | inr n ↦ absurd cc
      ]
    ]
  ]
]

abbrev given : TextOp × List ℕ → Option (TextOp × List ℕ)
given q = Some q

given_is : (p q : TextOp × List ℕ) → given p ≡ given q → p ≡ q
given_is p q e = cc

-- an operator's mark, and what follows
abbrev HasMark : List ℕ → TextOp × List ℕ → Type 0
HasMark t q = (mark : ℕ) × (t ≡ mark ∷ q.1) × (plain_op_text q.0 ≡ mark ∷ 61 ∷ [])

mark_made : (mark : ℕ) (t : List ℕ) (op : TextOp) (q : TextOp × List ℕ) → is_at mark t ≡ true → plain_op_text op ≡ mark ∷ 61 ∷ [] → given (op, drop 1 t) ≡ Some q → HasMark t q
mark_made mark t op q h k e = subst (HasMark t) (given_is (op, drop 1 t) q e) (mark, marked mark t h, k)

op_mark_is : (t : List ℕ) (q : TextOp × List ℕ) → op_mark t ≡ Some q → HasMark t q
unfolding op_mark
op_mark_is t q e = elim (chosen (is_at 94 t) _ _ _ e) [
  | inl h ↦ mark_made 94 t texts.Prefix q h.0 refl h.1
  | inr h ↦ elim (chosen (is_at 36 t) _ _ _ h.1) [
    | inl k ↦ mark_made 36 t texts.Suffix q k.0 refl k.1
    | inr k ↦ elim (chosen (is_at 42 t) _ _ _ k.1) [
      | inl m ↦ mark_made 42 t texts.Contains q m.0 refl m.1
      | inr m ↦ elim (chosen (is_at 126 t) _ _ _ m.1) [
        | inl n ↦ mark_made 126 t texts.Matches q n.0 refl n.1
        | inr n ↦ absurd cc
      ]
    ]
  ]
]

with_equal_is : (t : List ℕ) (o : Option (TextOp × List ℕ)) (q : TextOp × List ℕ) → ((r : TextOp × List ℕ) → o ≡ Some r → HasMark t r) → with_equal o ≡ Some q → t ≡ plain_op_text q.0 ++ q.1
with_equal_is t None q h e = absurd cc
with_equal_is t (Some r) q h e = elim (chosen (is_at 61 r.1) _ _ _ e) [
  | inl k ↦
      let m = h r refl in
      let whole : t ≡ plain_op_text r.0 ++ drop 1 r.1 = m.1 ∙ ap (λ (l : List ℕ). m.0 ∷ l) (marked 61 r.1 k.0) ∙ ap (λ (l : List ℕ). l ++ drop 1 r.1) (sym m.2) in
      subst (λ (z : TextOp × List ℕ). t ≡ plain_op_text z.0 ++ z.1) (given_is (r.0, drop 1 r.1) q k.1) whole
  | inr k ↦ absurd cc
]

plain_op_is : (t : List ℕ) (q : TextOp × List ℕ) → plain_op t ≡ Some q → t ≡ plain_op_text q.0 ++ q.1
unfolding plain_op
plain_op_is t q e = elim (chosen (is_at 61 t) _ _ _ e) [
  | inl h ↦ subst (λ (z : TextOp × List ℕ). t ≡ plain_op_text z.0 ++ z.1) (given_is (texts.Eq, drop 1 t) q h.1) (marked 61 t h.0)
  | inr h ↦ with_equal_is t (op_mark t) q (op_mark_is t) h.1
]

negated_is : (t u front : List ℕ) (negated : Bool) (o : Option (TextOp × List ℕ)) (p : (TextOp × Bool) × List ℕ) → ((q : TextOp × List ℕ) → o ≡ Some q → u ≡ plain_op_text q.0 ++ q.1)
    → ((op : TextOp) → text_op_text (op, negated) ≡ front ++ plain_op_text op) → t ≡ front ++ u → negated_op t negated o ≡ Ok p → Takes (λ s o. s ≡ text_op_text o) t p
negated_is t u front negated None p h k parts e = absurd cc
negated_is t u front negated (Some q) p h k parts e =
    let whole : t ≡ text_op_text (q.0, negated) ++ q.1 = parts ∙ ap (λ (l : List ℕ). front ++ l) (h q refl) ∙ sym (append_assoc front (plain_op_text q.0) q.1) ∙ ap (λ (l : List ℕ). l ++ q.1) (sym (k q.0)) in
    subst (λ (z : (TextOp × Bool) × List ℕ). Takes (λ s o. s ≡ text_op_text o) t z) (read_is ((q.0, negated), q.1) p e) (text_op_text (q.0, negated), refl, whole)

pub text_op_spells : Spells text_op_at (λ s o. s ≡ text_op_text o)
unfolding text_op_at
text_op_spells t p e = elim (chosen (is_at 33 t) _ _ _ e) [
  | inl h ↦ negated_is t (drop 1 t) (33 ∷ []) true (plain_op (drop 1 t)) p (plain_op_is (drop 1 t)) (λ op. refl) (marked 33 t h.0) h.1
  | inr h ↦ negated_is t t [] false (plain_op t) p (plain_op_is t) (λ op. refl) refl h.1
]

-- ---- `?`

mark_by : (v : Bool) (b : ℕ) (s r : List ℕ) → (b == 32) ≡ v → (is_at 63 (skip (s ++ r)) ≡ false → is_at 63 (skip s) ≡ false)
    → is_at 63 (cond v (skip (s ++ r)) (b ∷ (s ++ r))) ≡ false → is_at 63 (cond v (skip s) (b ∷ s)) ≡ false
mark_by true b s r e so h = so h
mark_by false b s r e so h = h

-- a text that does not begin with the mark has no front that does
front_no_mark : (s r : List ℕ) → has_mark (s ++ r) ≡ false → has_mark s ≡ false
front_no_mark [] r h = refl
front_no_mark (b ∷ s) r h = mark_by (b == 32) b s r refl (front_no_mark s r) h

marked_by : {A : Type 0} (v : Bool) (P : List ℕ → A → Type 0) (t : List ℕ) (x : A × List ℕ) → has_mark t ≡ v → Takes P (cond v (drop 1 (skip t)) t) x → Takes (IsMarked P) t ((v, x.0), x.1)
marked_by true P t x h so =
    let gap = gap_parts t in
    (gap.0 ++ 63 ∷ so.0, (gap.0, so.0, gap.1, so.1, refl), gap.2 ∙ ap (λ (l : List ℕ). gap.0 ++ l) (marked 63 (skip t) h ∙ ap (λ (l : List ℕ). 63 ∷ l) so.2) ∙ sym (append_assoc gap.0 (63 ∷ so.0) x.1))
marked_by false P t x h so = (so.0, (so.1, front_no_mark so.0 x.1 (ap has_mark (sym so.2) ∙ h)), so.2)

pub marked_spells : {A : Type 0} (value : List ℕ → Read SelKind A) (P : List ℕ → A → Type 0) → Spells value P → Spells (marked_at value) (IsMarked P)
unfolding marked_at
marked_spells {A} value P law t p e =
    let a = bind_ok (value (behind_mark t)) (λ x. Ok ((has_mark t, x.0), x.1)) p e in
    subst (λ (q : (Bool × A) × List ℕ). Takes (IsMarked P) t q) (read_is ((has_mark t, a.0.0), a.0.1) p a.2) (marked_by (has_mark t) P t a.0 refl (law (behind_mark t) a.0 a.1))

-- ---- values

pub num_value_spells : Spells num_value_at IsNumValue
unfolding num_value_at
num_value_spells t p e =
    let a = bind_ok (run_at Syntax is_value_byte t) (λ word. found Value t (size_of 1000 word.0) word.1) p e in
    let run = run_is Syntax is_value_byte t a.0 a.1 in
    let b = found_is Value t a.0.1 (size_of 1000 a.0.0) p a.2 in
    (a.0.0, (run.some, run.all, b.0), run.parts ∙ ap (λ (l : List ℕ). a.0.0 ++ l) b.1)

abbrev pub pair : List ℕ × List ℕ → Option (List ℕ × List ℕ)
pair x = Some x

pub pair_is : (x y : List ℕ × List ℕ) → pair x ≡ pair y → x ≡ y
pair_is x y e = cc

pub put_some : (b : ℕ) (r : Option (List ℕ × List ℕ)) (x : List ℕ × List ℕ) → put b r ≡ Some x → (y : List ℕ × List ℕ) × (r ≡ Some y) × ((b ∷ y.0, y.1) ≡ x)
put_some b None x e = absurd cc
put_some b (Some y) x e = (y, refl, pair_is (b ∷ y.0, y.1) x e)

abbrev Bodied : ℕ → List ℕ → List ℕ × List ℕ → Type 0
Bodied quote t x = (body : List ℕ) × IsBody quote body x.0 × (t ≡ body ++ quote ∷ x.1)

-- the same, of which the first byte is taken as it is
abbrev Escaped : ℕ → List ℕ → List ℕ × List ℕ → Type 0
Escaped quote t x = (b : ℕ) × (value body : List ℕ) × (x.0 ≡ b ∷ value) × IsBody quote body value × (t ≡ b ∷ (body ++ quote ∷ x.1))

unquoted_is : (quote : ℕ) (t : List ℕ) → ((x : List ℕ × List ℕ) → unquoted quote false t ≡ Some x → Bodied quote t x) × ((x : List ℕ × List ℕ) → unquoted quote true t ≡ Some x → Escaped quote t x)
unfolding unquoted
unquoted_is quote [] = (λ x e. absurd cc, λ x e. absurd cc)
unquoted_is quote (b ∷ t) =
    let so = unquoted_is quote t in (
      λ x e. elim (chosen (b == quote) _ _ _ e) [
        | inl h ↦ subst (Bodied quote (b ∷ t)) (pair_is ([], t) x h.1) ([], refl, ap (λ (c : ℕ). c ∷ t) (eqb-true b quote h.0))
        | inr h ↦ elim (chosen (b == 92) _ _ _ h.1) [
          | inl k ↦
              let n = so.1 x k.1 in
              let is : IsBody quote (92 ∷ n.0 ∷ n.2) (n.0 ∷ n.1) = (n.2, n.4, inr refl) in
              (92 ∷ n.0 ∷ n.2, subst (IsBody quote (92 ∷ n.0 ∷ n.2)) (sym n.3) is, ap (λ (c : ℕ). c ∷ t) (eqb-true b 92 k.0) ∙ ap (λ (l : List ℕ). 92 ∷ l) n.5)
          | inr k ↦
              let y = put_some b (unquoted quote false t) x k.1 in
              let n = so.0 y.0 y.1 in
              subst (Bodied quote (b ∷ t)) y.2 (b ∷ n.0, (n.0, n.1, inl (refl, h.0, k.0)), ap (λ (l : List ℕ). b ∷ l) n.2)
        ]
      ],
      λ x e.
          let y = put_some b (unquoted quote false t) x e in
          let n = so.0 y.0 y.1 in
          subst (Escaped quote (b ∷ t)) y.2 (b, y.0.0, n.0, refl, n.1, ap (λ (l : List ℕ). b ∷ l) n.2),
    )

closed_quote_is : (quote : ℕ) (t u : List ℕ) (o : Option (List ℕ × List ℕ)) (p : List ℕ × List ℕ) → t ≡ quote ∷ u → ((x : List ℕ × List ℕ) → o ≡ Some x → Bodied quote u x)
    → closed_quote t o ≡ Ok p → Takes (IsQuoted quote) t p
closed_quote_is quote t u None p parts h e = absurd cc
closed_quote_is quote t u (Some x) p parts h e =
    let n = h x refl in
    let whole : t ≡ (quote ∷ (n.0 ++ quote ∷ [])) ++ x.1 = parts ∙ ap (λ (l : List ℕ). quote ∷ l) (n.2 ∙ sym (append_assoc n.0 (quote ∷ []) x.1)) in
    subst (λ (q : List ℕ × List ℕ). Takes (IsQuoted quote) t q) (read_is x p e) (quote ∷ (n.0 ++ quote ∷ []), (n.0, n.1, refl), whole)

quoted_takes : (op : TextOp) (t : List ℕ) (p : List ℕ × List ℕ) → can_have op p.0 ≡ true → Takes (IsQuoted 34) t p ⊎ (Takes (IsQuoted 39) t p ⊎ Takes (IsRun is_value_byte) t p) → Takes (IsTextValue op) t p
quoted_takes op t p h (inl k) = (k.0, (inl k.1, h), k.2)
quoted_takes op t p h (inr (inl k)) = (k.0, (inr (inl k.1), h), k.2)
quoted_takes op t p h (inr (inr k)) = (k.0, (inr (inr k.1), h), k.2)

text_value_is : (t : List ℕ) (p : List ℕ × List ℕ) → text_value_at t ≡ Ok p → Takes (IsQuoted 34) t p ⊎ (Takes (IsQuoted 39) t p ⊎ Takes (IsRun is_value_byte) t p)
unfolding text_value_at
text_value_is t p e = elim (chosen (is_at 34 t) _ _ _ e) [
  | inl h ↦ inl (closed_quote_is 34 t (drop 1 t) (unquoted 34 false (drop 1 t)) p (marked 34 t h.0) ((unquoted_is 34 (drop 1 t)).0) h.1)
  | inr h ↦ elim (chosen (is_at 39 t) _ _ _ h.1) [
    | inl k ↦ inr (inl (closed_quote_is 39 t (drop 1 t) (unquoted 39 false (drop 1 t)) p (marked 39 t k.0) ((unquoted_is 39 (drop 1 t)).0) k.1))
    | inr k ↦
        let run = run_is Syntax is_value_byte t p k.1 in
        inr (inr (p.0, (refl, run.some, run.all), run.parts))
  ]
]

pub tested_spells : (op : TextOp) → Spells (tested_at op) (IsTextValue op)
unfolding tested_at
tested_spells op t p e =
    let a = bind_ok (text_value_at t) (λ value. cond (can_have op value.0) (Ok value) (Err (Regex, length (value_start t)))) p e in
    elim (chosen (can_have op a.0.0) _ _ _ a.2) [
      | inl h ↦ subst (λ (q : List ℕ × List ℕ). Takes (IsTextValue op) t q) (read_is a.0 p h.1) (quoted_takes op t a.0 h.0 (text_value_is t a.0 a.1))
      | inr h ↦ absurd cc
    ]

-- ---- the whole

pub ended_spells : (x : PlainFilter) → Spells (ended x) (IsEnd x)
ended_spells x t p e = elim (chosen (is_at 93 (skip t)) _ _ _ e) [
  | inl h ↦
      let gap = gap_parts t in
      subst (λ (q : PlainFilter × List ℕ). Takes (IsEnd x) t q) (read_is (x, drop 1 (skip t)) p h.1)
      (gap.0 ++ 93 ∷ [], (gap.0, gap.1, refl, refl), gap.2 ∙ ap (λ (l : List ℕ). gap.0 ++ l) (marked 93 (skip t) h.0) ∙ sym (append_assoc gap.0 (93 ∷ []) (drop 1 (skip t))))
  | inr h ↦ absurd cc
]

num_spells : (field : NumField) → Spells (num_filter_at field) (IsNumFilter field)
unfolding num_filter_at
num_spells field =
    then_spells (λ t. num_op_at (skip t)) (num_rest field) (Spaced (λ s op. s ≡ num_op_text op)) (IsNumRest field)
    (spaced_spells num_op_at (λ s op. s ≡ num_op_text op) num_op_spells)
    (λ op. then_spells (marked_at num_value) (λ value. ended (num_made field op value)) (IsMarked (Spaced IsNumValue)) (λ value. IsEnd (num_made field op value))
    (marked_spells num_value (Spaced IsNumValue) (spaced_spells num_value_at IsNumValue num_value_spells)) (λ value. ended_spells (num_made field op value)))

text_spells : (field : TextField) → Spells (text_filter_at field) (IsTextFilter field)
unfolding text_filter_at
text_spells field =
    then_spells (λ t. text_op_at (skip t)) (text_rest field) (Spaced (λ s op. s ≡ text_op_text op)) (IsTextRest field)
    (spaced_spells text_op_at (λ s op. s ≡ text_op_text op) text_op_spells)
    (λ op. then_spells (marked_at (text_value op.0)) (λ value. ended (text_made field op value)) (IsMarked (Spaced (IsTextValue op.0))) (λ value. IsEnd (text_made field op value))
    (marked_spells (text_value op.0) (Spaced (IsTextValue op.0)) (spaced_spells (tested_at op.0) (IsTextValue op.0) (tested_spells op.0))) (λ value. ended_spells (text_made field op value)))

tail_spells : (field : FieldName) → Spells (tail_at field) (IsTail field)
tail_spells (names.Num field) = num_spells field
tail_spells (names.Text field) = text_spells field

pub filter_spells : Spells filter_at IsFilter
unfolding filter_at
filter_spells = then_spells (λ t. field_at (skip t)) tail_at (Spaced IsField) IsTail (spaced_spells field_at IsField field_spells) tail_spells
