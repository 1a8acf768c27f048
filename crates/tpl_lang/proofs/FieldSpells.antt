-- A field that is taken is spelled so.
use Rattle.std.proofs.Common.{◌≡◌, ℕ, suc, ◌-◌, ◌<◌, Bool, true, false, ◌&&◌, not, cond, eqb, ltb, List, [], ◌∷◌, ◌++◌, length, take, drop, Option, Some, None, Ok, refl, sym, ap, subst, ◌∙◌, append_assoc, append-nil, arith, inl, inr}
use Rattle.std.specs.Prelude.{codes, is_some}
use Rattle.std.specs.List.{prefix_len}
use Rattle.std.proofs.lemmas.Bool.{eqb-true, eqb-false, ltb-false, and_parts}
use Rattle.std.proofs.lemmas.List.{take-append-drop}
use Rattle.std.proofs.lemmas.List.Folds.{length-prefix_len}
use Rattle.text_base.specs.Spelling.{is_digit}
use Rattle.text_base.specs.Value.{digits_value}
use Rattle.read_base.specs.Reads.{◌>>=◌, is_at, mark_at, run_at, all_at}
use Rattle.read_base.specs.Laws.{head_is}
use Rattle.read_base.proofs.StepLemmas.{bind_ok, ok_is, chosen, marked, mark_is, run_all}
use Rattle.tpl_lang.specs.declared.tpl_kind.TplKind.{TplKind}
use Rattle.tpl_lang.specs.declared.tpl_kind.TplKind.TheVariants.{Syntax}
use Rattle.tpl_lang.specs.declared.scan.Class.TheVariants.{Flag, Default, ReplacementText}
use Rattle.tpl_lang.specs.declared.replacement.Align.{Align}
use Rattle.tpl_lang.specs.declared.replacement.Align.TheVariants.{Left}
use Rattle.tpl_lang.specs.declared.replacement.ReplacementPart.{ReplacementPart}
use Rattle.tpl_lang.specs.declared.replacement.ReplacementPart.TheVariants as pieces
use Rattle.tpl_lang.specs.declared.conv.Conv.{Conv}
use Rattle.tpl_lang.specs.declared.conv.Kind.{Kind}
use Rattle.tpl_lang.specs.Bytes.{is_letter, in_class}
use Rattle.tpl_lang.specs.Exprs.{ExprView}
use Rattle.tpl_lang.specs.Fields.{FieldView}
use Rattle.tpl_lang.specs.ExprReading.{exprs_at}
use Rattle.tpl_lang.specs.FieldReading.{refused_brace, align_of, aligned_at, value_at, in_replacement, replacement_part_at, replacement_at, default_of, flags_of, short_at, precision_at, is_length, first_kind, behind_length, type_by, type_at, conv_at, is_bare, field_at}
use Rattle.tpl_lang.specs.Spelled.{IsEnd, Follows, Marked, IsExprs, IsReplacementPart, IsReplacement, IsDefault, IsShort, IsPrecision, IsType, IsConv, IsField}
use Rattle.tpl_lang.proofs.SpellsLemmas.{TakesSo, SpellsSo, end_spells, follows_spells, all_spells, run_stop, run_spells, some_run_spells}
use Rattle.tpl_lang.proofs.ExprSpells.{exprs_spells}

-- ---- replacements

refused_is : (brace rest : List ℕ) (p : ReplacementPart × List ℕ) → refused_brace brace rest ≡ Ok p → ⊥
refused_is brace rest p e = elim (chosen (eqb (length rest) 0) _ _ _ e) [
  | inl h ↦ absurd cc
  | inr h ↦ absurd cc
]

aligned_parts : (t u v w : List ℕ) (side : ℕ) (n : ℕ) → t ≡ 123 ∷ u → u ≡ 58 ∷ side ∷ v → drop n v ≡ 125 ∷ w → t ≡ (123 ∷ 58 ∷ side ∷ (take n v ++ 125 ∷ [])) ++ w
aligned_parts t u v w side n e1 e2 e3 =
    let behind : v ≡ take n v ++ 125 ∷ w = sym (take-append-drop n v) ∙ ap (λ (l : List ℕ). take n v ++ l) e3 in
    e1 ∙ ap (λ (l : List ℕ). 123 ∷ l) e2 ∙ ap (λ (l : List ℕ). 123 ∷ 58 ∷ side ∷ l) (behind ∙ sym (append_assoc (take n v) (125 ∷ []) w))

align_alone : (b : ℕ) (t : List ℕ) → align_of (b ∷ t) ≡ align_of (b ∷ [])
align_alone b t = refl

aligned_from : (o : Option Align) (t u : List ℕ) (p : ReplacementPart × List ℕ) → t ≡ 123 ∷ 58 ∷ u → align_of u ≡ o → aligned_at t u o ≡ Ok p → TakesSo IsReplacementPart t p
aligned_from None t u p parts h e = absurd (refused_is t u p e)
aligned_from (Some align) t [] p parts h e = absurd cc
aligned_from (Some align) t (side ∷ v) p parts h e =
    let n = prefix_len is_digit v in
    let rest = drop n v in
    elim (chosen (ltb 5 n) _ _ _ e) [
      | inl k ↦ absurd cc
      | inr k ↦ elim (chosen (eqb n 0) _ _ _ k.1) [
        | inl z ↦ absurd (refused_is t rest p z.1)
        | inr z ↦ elim (chosen (is_at 125 rest) _ _ _ z.1) [
          | inl w ↦
              let len : length (take n v) ≡ n = length-prefix_len is_digit v in
              let made : ReplacementPart × List ℕ = (pieces.Value align (digits_value (take n v)), drop 1 rest) in
              let taken : TakesSo IsReplacementPart t made = (
                123 ∷ 58 ∷ side ∷ (take n v ++ 125 ∷ []),
                inr (side, take n v, h, run_all is_digit v, omega (arith, len, eqb-false n 0 z.0), omega (arith, len, ltb-false 5 n k.0), refl, refl),
                aligned_parts t (58 ∷ side ∷ v) v (drop 1 rest) side n parts refl (marked 125 rest w.0),
              ) in
              subst (λ (q : ReplacementPart × List ℕ). TakesSo IsReplacementPart t q) (ok_is {K = TplKind} made p w.1) taken
          | inr w ↦ absurd (refused_is t rest p w.1)
        ]
      ]
    ]

value_spells : (t : List ℕ) (p : ReplacementPart × List ℕ) → is_at 123 t ≡ true → value_at t ≡ Ok p → TakesSo IsReplacementPart t p
unfolding value_at
value_spells t p here e =
    let opened = marked 123 t here in
    elim (chosen (is_at 125 (drop 1 t)) _ _ _ e) [
      | inl h ↦
          let made : ReplacementPart × List ℕ = (pieces.Value Left 0, drop 1 (drop 1 t)) in
          let taken : TakesSo IsReplacementPart t made = (codes "{}", inl (refl, refl, refl), opened ∙ ap (λ (l : List ℕ). 123 ∷ l) (marked 125 (drop 1 t) h.0)) in
          subst (λ (q : ReplacementPart × List ℕ). TakesSo IsReplacementPart t q) (ok_is {K = TplKind} made p h.1) taken
      | inr h ↦ elim (chosen (is_at 58 (drop 1 t)) _ _ _ h.1) [
        | inl k ↦ aligned_from (align_of (drop 1 (drop 1 t))) t (drop 1 (drop 1 t)) p (opened ∙ ap (λ (l : List ℕ). 123 ∷ l) (marked 58 (drop 1 t) k.0)) refl k.1
        | inr k ↦ absurd (refused_is t (drop 1 t) p k.1)
      ]
    ]

pub replacement_part_spells : SpellsSo replacement_part_at IsReplacementPart
unfolding replacement_part_at
replacement_part_spells t p e = elim (chosen (is_at 123 t) _ _ _ e) [
  | inl h ↦ elim (chosen (is_at 123 (drop 1 t)) _ _ _ h.1) [
    | inl k ↦
        let made : ReplacementPart × List ℕ = (pieces.Text (codes "{"), drop 1 (drop 1 t)) in
        let taken : TakesSo IsReplacementPart t made = (codes "{{", inl (refl, refl), marked 123 t h.0 ∙ ap (λ (l : List ℕ). 123 ∷ l) (marked 123 (drop 1 t) k.0)) in
        subst (λ (q : ReplacementPart × List ℕ). TakesSo IsReplacementPart t q) (ok_is {K = TplKind} made p k.1) taken
    | inr k ↦ value_spells t p h.0 k.1
  ]
  | inr h ↦ elim (chosen (is_at 125 t) _ _ _ h.1) [
    | inl k ↦ elim (chosen (is_at 125 (drop 1 t)) _ _ _ k.1) [
      | inl w ↦
          let made : ReplacementPart × List ℕ = (pieces.Text (codes "}"), drop 1 (drop 1 t)) in
          let taken : TakesSo IsReplacementPart t made = (codes "}}", inr (inl (refl, refl)), marked 125 t k.0 ∙ ap (λ (l : List ℕ). 125 ∷ l) (marked 125 (drop 1 t) w.0)) in
          subst (λ (q : ReplacementPart × List ℕ). TakesSo IsReplacementPart t q) (ok_is {K = TplKind} made p w.1) taken
      | inr w ↦ absurd (refused_is t (drop 1 t) p w.1)
    ]
    | inr k ↦
        let a = bind_ok (run_at Syntax (in_class ReplacementText) t) (λ run. Ok (pieces.Text run.0, run.1)) p k.1 in
        let one = some_run_spells Syntax (in_class ReplacementText) t a.0 a.1 in
        let made : ReplacementPart × List ℕ = (pieces.Text a.0.0, a.0.1) in
        let taken : TakesSo IsReplacementPart t made = (one.0, inr (inr one.1), one.2) in
        subst (λ (q : ReplacementPart × List ℕ). TakesSo IsReplacementPart t q) (ok_is {K = TplKind} made p a.2) taken
  ]
]

pub replacement_part_some : (s r : List ℕ) (x : ReplacementPart) → IsReplacementPart s r x → 0 < length s
replacement_part_some s r (pieces.Text run) h = elim h [
  | inl a ↦ omega (arith, ap length a.0)
  | inr a ↦ elim a [ inl b ↦ omega (arith, ap length b.0) | inr b ↦ b.0 ]
]
replacement_part_some s r (pieces.Value align width) h = elim h [
  | inl a ↦ omega (arith, ap length a.0)
  | inr a ↦ omega (arith, ap length a.7)
]

replacement_spells : SpellsSo replacement_at IsReplacement
unfolding replacement_at
replacement_spells t p e = elim (chosen (is_at 38 t) _ _ _ e) [
  | inl h ↦
      let a = bind_ok (all_at in_replacement replacement_part_at (drop 1 t)) (λ parts. Ok (Some parts.0, parts.1)) p h.1 in
      let one = all_spells in_replacement replacement_part_at IsReplacementPart refl replacement_part_some (λ t p here e. replacement_part_spells t p e) (drop 1 t) a.0 a.1 in
      let made : Option (List ReplacementPart) × List ℕ = (Some a.0.0, a.0.1) in
      let taken : TakesSo IsReplacement t made = (38 ∷ one.0, (one.0, one.1, refl), marked 38 t h.0 ∙ ap (λ (l : List ℕ). 38 ∷ l) one.2) in
      subst (λ (q : Option (List ReplacementPart) × List ℕ). TakesSo IsReplacement t q) (ok_is {K = TplKind} made p a.2) taken
  | inr h ↦
      let made : Option (List ReplacementPart) × List ℕ = (None, t) in
      let taken : TakesSo IsReplacement t made = ([], (refl, h.0), refl) in
      subst (λ (q : Option (List ReplacementPart) × List ℕ). TakesSo IsReplacement t q) (ok_is {K = TplKind} made p h.1) taken
]

-- ---- defaults

default_by : (c : Bool) (t : List ℕ) → is_at 124 t ≡ c → TakesSo IsDefault t (cond c (Some (take (prefix_len (in_class Default) (drop 1 t)) (drop 1 t)), drop (prefix_len (in_class Default) (drop 1 t)) (drop 1 t)) (None, t))
default_by true t h =
    let u = drop 1 t in
    let n = prefix_len (in_class Default) u in
    (124 ∷ take n u, (take n u, (run_all (in_class Default) u, run_stop (in_class Default) u, refl), refl), marked 124 t h ∙ ap (λ (l : List ℕ). 124 ∷ l) (sym (take-append-drop n u)))
default_by false t h = ([], (refl, h), refl)

default_spells : SpellsSo (λ t. Ok (default_of t)) IsDefault
default_spells t p e = subst (λ (q : Option (List ℕ) × List ℕ). TakesSo IsDefault t q) (ok_is {K = TplKind} (default_of t) p e) (default_by (is_at 124 t) t refl)

-- ---- conversions

no_digit : (t : List ℕ) → prefix_len is_digit t ≡ 0 → head_is (λ b. not (is_digit b)) t ≡ true
no_digit t h = subst (λ (n : ℕ). head_is (λ b. not (is_digit b)) (drop n t) ≡ true) h (run_stop is_digit t)

short_spells : SpellsSo short_at IsShort
unfolding short_at
short_spells t p e =
    let n = prefix_len is_digit t in
    elim (chosen (eqb n 0) _ _ _ e) [
      | inl h ↦
          let made : Option ℕ × List ℕ = (None, t) in
          let taken : TakesSo IsShort t made = ([], (refl, no_digit t (eqb-true n 0 h.0)), refl) in
          subst (λ (q : Option ℕ × List ℕ). TakesSo IsShort t q) (ok_is {K = TplKind} made p h.1) taken
      | inr h ↦ elim (chosen (ltb 5 n) _ _ _ h.1) [
        | inl k ↦ absurd cc
        | inr k ↦
            let len : length (take n t) ≡ n = length-prefix_len is_digit t in
            let made : Option ℕ × List ℕ = (Some (digits_value (take n t)), drop n t) in
            let taken : TakesSo IsShort t made = (take n t, (omega (arith, len, ltb-false 5 n k.0), take n t, (omega (arith, len, eqb-false n 0 h.0), (run_all is_digit t, run_stop is_digit t, refl)), refl), sym (take-append-drop n t)) in
            subst (λ (q : Option ℕ × List ℕ). TakesSo IsShort t q) (ok_is {K = TplKind} made p k.1) taken
      ]
    ]

short_some : (t : List ℕ) (n : ℕ) (p : Option ℕ × List ℕ) → prefix_len is_digit t ≡ suc n → short_at t ≡ Ok p → (count : ℕ) × (p.0 ≡ Some count)
unfolding short_at
short_some t n p h e = elim (chosen (eqb (prefix_len is_digit t) 0) _ _ _ e) [
  | inl k ↦ absurd (omega (arith, h, eqb-true _ _ k.0))
  | inr k ↦ elim (chosen (ltb 5 (prefix_len is_digit t)) _ _ _ k.1) [
    | inl w ↦ absurd cc
    | inr w ↦ (digits_value (take (prefix_len is_digit t) t), sym (ap (λ (q : Option ℕ × List ℕ). q.0) (ok_is {K = TplKind} (Some (digits_value (take (prefix_len is_digit t) t)), drop (prefix_len is_digit t) t) p w.1)))
  ]
]

precise : (t : List ℕ) (n : ℕ) (p : Option ℕ × List ℕ) (count : ℕ) → is_at 46 t ≡ true → p.0 ≡ Some count → TakesSo IsShort (drop 1 t) p → TakesSo IsPrecision t p
precise t n p count h some one =
    let is : IsShort one.0 p.1 (Some count) = subst (λ (o : Option ℕ). IsShort one.0 p.1 o) some one.1 in
    let taken : TakesSo IsPrecision t (Some count, p.1) = (46 ∷ one.0, (one.0, is, refl), marked 46 t h ∙ ap (λ (l : List ℕ). 46 ∷ l) one.2) in
    subst (λ (o : Option ℕ). TakesSo IsPrecision t (o, p.1)) (sym some) taken

digits_there : (n : ℕ) → eqb n 0 ≡ false → (m : ℕ) × (n ≡ suc m)
digits_there n h = (n - 1, omega (arith, eqb-false n 0 h))

precision_spells : SpellsSo precision_at IsPrecision
unfolding precision_at
precision_spells t p e = elim (chosen (is_at 46 t) _ _ _ e) [
  | inl h ↦ elim (chosen (eqb (length (drop 1 t)) 0) _ _ _ h.1) [
    | inl k ↦ absurd cc
    | inr k ↦ elim (chosen (eqb (prefix_len is_digit (drop 1 t)) 0) _ _ _ k.1) [
      | inl w ↦ absurd cc
      | inr w ↦
          let n = digits_there (prefix_len is_digit (drop 1 t)) w.0 in
          let some = short_some (drop 1 t) n.0 p n.1 w.1 in
          precise t n.0 p some.0 h.0 some.1 (short_spells (drop 1 t) p w.1)
    ]
  ]
  | inr h ↦
      let made : Option ℕ × List ℕ = (None, t) in
      let taken : TakesSo IsPrecision t made = ([], (refl, h.0), refl) in
      subst (λ (q : Option ℕ × List ℕ). TakesSo IsPrecision t q) (ok_is {K = TplKind} made p h.1) taken
]

-- ---- types

type_by_is : (o : Option Kind) (u : List ℕ) (p : Kind × List ℕ) → type_by u o ≡ Ok p → (o ≡ Some p.0) × (p.1 ≡ drop 1 u)
type_by_is (Some kind) u p e =
    let is : ◌≡◌ {A = Kind × List ℕ} (kind, drop 1 u) p = ok_is {K = TplKind} (kind, drop 1 u) p e in
    (ap (λ (q : Kind × List ℕ). Some q.0) is, sym (ap (λ (q : Kind × List ℕ). q.1) is))
type_by_is None [] p e = absurd cc
type_by_is None (b ∷ u) p e = elim (chosen (is_letter b) _ _ _ e) [
  | inl h ↦ absurd cc
  | inr h ↦ absurd cc
]

type_here : (c : Bool) (b : ℕ) (u : List ℕ) (p : Kind × List ℕ) → is_length b && is_some (first_kind u) ≡ c → first_kind (cond c u (b ∷ u)) ≡ Some p.0 → p.1 ≡ drop 1 (cond c u (b ∷ u)) → TakesSo IsType (b ∷ u) p
type_here true b [] p h k r = absurd cc
type_here true b (d ∷ u) p h k r = (b ∷ d ∷ [], inl (b, d, (and_parts _ _ h).0, k, refl), ap (λ (l : List ℕ). b ∷ d ∷ l) (sym r))
type_here false b u p h k r =
    (b ∷ [], inr (b, ap (λ (l : List ℕ). is_length b && is_some (first_kind l)) r ∙ h, k, refl), ap (λ (l : List ℕ). b ∷ l) (sym r))

pub type_spells : SpellsSo type_at IsType
type_spells [] p e = absurd cc
type_spells (b ∷ u) p e =
    let is = type_by_is (first_kind (behind_length (b ∷ u))) (behind_length (b ∷ u)) p e in
    type_here (is_length b && is_some (first_kind u)) b u p refl is.0 is.1

-- ---- conversions and fields

abbrev pub conv_of : List ℕ → Option ℕ → Option ℕ → Kind → Conv
conv_of signs width precision kind = record { flags = flags_of signs; width = width; precision = precision; kind = kind }

pub conv_spells : SpellsSo conv_at IsConv
unfolding conv_at
conv_spells =
    follows_spells (λ t. Ok (take (prefix_len (in_class Flag) t) t, drop (prefix_len (in_class Flag) t) t))
    (λ signs r. short_at r >>= λ width. precision_at width.1 >>= λ precision. type_at precision.1 >>= λ kind. Ok (conv_of signs width.0 precision.0 kind.0, kind.1)) _ _ (run_spells (in_class Flag))
    (λ signs. follows_spells short_at (λ width r. precision_at r >>= λ precision. type_at precision.1 >>= λ kind. Ok (conv_of signs width precision.0 kind.0, kind.1)) _ _ short_spells
    (λ width. follows_spells precision_at (λ precision r. type_at r >>= λ kind. Ok (conv_of signs width precision kind.0, kind.1)) _ _ precision_spells
    (λ precision. follows_spells type_at (λ kind r. Ok (conv_of signs width precision kind, r)) _ _ type_spells (λ kind. end_spells (conv_of signs width precision kind)))))

abbrev pub field_of : List ExprView → Option (List ReplacementPart) → Option (List ℕ) → Conv → Bool → FieldView
field_of exprs replacement default conv bare = record { exprs = exprs; replacement = replacement; default = default; conv = conv; is_bare = bare }

abbrev pub IsFieldBy : Bool → List ℕ → List ℕ → FieldView → Type 0
IsFieldBy bare = Follows IsExprs (λ exprs. Follows IsReplacement (λ replacement. Follows IsDefault (λ default. Follows (Marked 41 IsConv) (λ conv. IsEnd (field_of exprs replacement default conv bare)))))

close_spells : (exprs : List ExprView) (replacement : Option (List ReplacementPart)) (default : Option (List ℕ)) (bare : Bool)
    → SpellsSo (λ r. mark_at Syntax 41 r >>= λ rest. conv_at rest >>= λ conv. Ok (field_of exprs replacement default conv.0 bare, conv.1)) (Follows (Marked 41 IsConv) (λ conv. IsEnd (field_of exprs replacement default conv bare)))
close_spells exprs replacement default bare t p e =
    let a = bind_ok (mark_at Syntax 41 t) (λ rest. conv_at rest >>= λ conv. Ok (field_of exprs replacement default conv.0 bare, conv.1)) p e in
    let b = bind_ok (conv_at a.0) (λ conv. Ok (field_of exprs replacement default conv.0 bare, conv.1)) p a.2 in
    let one = conv_spells a.0 b.0 b.1 in
    let mark = mark_is Syntax 41 t a.0 a.1 in
    let P : List ℕ → List ℕ → FieldView → Type 0 = Follows (Marked 41 IsConv) (λ conv. IsEnd (field_of exprs replacement default conv bare)) in
    let made : FieldView × List ℕ = (field_of exprs replacement default b.0.0 bare, b.0.1) in
    let taken : TakesSo P t made = (41 ∷ one.0, (41 ∷ one.0, [], b.0.0, (one.0, one.1, refl), (refl, refl), sym (append-nil (41 ∷ one.0))), mark ∙ ap (λ (l : List ℕ). 41 ∷ l) one.2) in
    subst (λ (q : FieldView × List ℕ). TakesSo P t q) (ok_is {K = TplKind} made p b.2) taken

pub field_by_spells : (bare : Bool) → SpellsSo (λ t. exprs_at t >>= λ exprs. replacement_at exprs.1 >>= λ replacement. mark_at Syntax 41 (default_of replacement.1).1 >>= λ rest. conv_at rest >>= λ conv.
    Ok (field_of exprs.0 replacement.0 (default_of replacement.1).0 conv.0 bare, conv.1)) (IsFieldBy bare)
field_by_spells bare =
    follows_spells exprs_at (λ exprs r. replacement_at r >>= λ replacement. mark_at Syntax 41 (default_of replacement.1).1 >>= λ rest. conv_at rest >>= λ conv. Ok (field_of exprs replacement.0 (default_of replacement.1).0 conv.0 bare, conv.1)) _ _ exprs_spells
    (λ exprs. follows_spells replacement_at (λ replacement r. mark_at Syntax 41 (default_of r).1 >>= λ rest. conv_at rest >>= λ conv. Ok (field_of exprs replacement (default_of r).0 conv.0 bare, conv.1)) _ _ replacement_spells
    (λ replacement. follows_spells (λ r. Ok (default_of r)) (λ default r. mark_at Syntax 41 r >>= λ rest. conv_at rest >>= λ conv. Ok (field_of exprs replacement default conv.0 bare, conv.1)) _ _ default_spells
    (λ default. close_spells exprs replacement default bare)))

pub field_spells : SpellsSo field_at IsField
unfolding field_at
field_spells t p e =
    let one = field_by_spells (is_bare t) t p e in
    (one.0, subst (λ (b : Bool). IsFieldBy b one.0 p.1 p.0) (ap is_bare one.2) one.1, one.2)
