-- A template that is accepted is spelled so.
use Rattle.std.proofs.Common.{◌≡◌, ℕ, ◌<◌, true, false, List, [], ◌∷◌, ◌++◌, length, take, drop, Ok, refl, sym, ap, subst, ◌∙◌, append-nil, arith, inl, inr}
use Rattle.std.specs.Prelude.{codes}
use Rattle.std.specs.List.{prefix_len}
use Rattle.std.proofs.lemmas.List.{take-append-drop}
use Rattle.std.proofs.lemmas.List.Folds.{length-prefix_len}
use Rattle.read_base.specs.Reads.{is_at, all_at}
use Rattle.read_base.proofs.StepLemmas.{bind_ok, ok_is, chosen, marked, run_all}
use Rattle.read_base.proofs.OpensLemmas.{placed_ok}
use Rattle.tpl_lang.specs.declared.tpl_kind.TplKind.{TplKind}
use Rattle.tpl_lang.specs.declared.template.Part.{Part}
use Rattle.tpl_lang.specs.declared.template.Part.TheVariants as parts
use Rattle.tpl_lang.specs.FieldReading.{field_at}
use Rattle.tpl_lang.specs.Reading.{is_plain, percent_at, part_at, is_left, whole_at, fault_at, template_of}
use Rattle.tpl_lang.specs.Spelled.{AllOf, IsPart, IsSpelled}
use Rattle.tpl_lang.proofs.SpellsLemmas.{TakesSo, SpellsAt, all_spells, run_stop}
use Rattle.tpl_lang.proofs.FieldSpells.{field_spells}

percent_spells : (t u : List ℕ) (p : Part × List ℕ) → t ≡ 37 ∷ u → percent_at u ≡ Ok p → TakesSo IsPart t p
unfolding percent_at
percent_spells t u p sign e = elim (chosen (is_at 40 u) _ _ _ e) [
  | inl h ↦
      let a = bind_ok (field_at (drop 1 u)) (λ field. Ok (parts.Field field.0, field.1)) p h.1 in
      let one = field_spells (drop 1 u) a.0 a.1 in
      let made : Part × List ℕ = (parts.Field a.0.0, a.0.1) in
      let taken : TakesSo IsPart t made = (37 ∷ 40 ∷ one.0, (one.0, one.1, refl), sign ∙ ap (λ (l : List ℕ). 37 ∷ l) (marked 40 u h.0 ∙ ap (λ (l : List ℕ). 40 ∷ l) one.2)) in
      subst (λ (q : Part × List ℕ). TakesSo IsPart t q) (ok_is {K = TplKind} made p a.2) taken
  | inr h ↦ elim (chosen (is_at 37 u) _ _ _ h.1) [
    | inl k ↦
        let made : Part × List ℕ = (parts.Literal (codes "%"), drop 1 u) in
        let taken : TakesSo IsPart t made = (codes "%%", inr (inl (refl, refl)), sign ∙ ap (λ (l : List ℕ). 37 ∷ l) (marked 37 u k.0)) in
        subst (λ (q : Part × List ℕ). TakesSo IsPart t q) (ok_is {K = TplKind} made p k.1) taken
    | inr k ↦
        let made : Part × List ℕ = (parts.Literal (codes "%"), u) in
        let taken : TakesSo IsPart t made = (codes "%", inr (inr (k.0, h.0, refl, refl)), sign) in
        subst (λ (q : Part × List ℕ). TakesSo IsPart t q) (ok_is {K = TplKind} made p k.1) taken
  ]
]

plain_some : (t : List ℕ) → is_left t ≡ true → is_at 37 t ≡ false → 0 < prefix_len is_plain t
plain_some [] h k = absurd cc
plain_some (b ∷ t) h k = rw k (omega arith)

pub part_spells : SpellsAt is_left part_at IsPart
unfolding part_at
part_spells t p here e = elim (chosen (is_at 37 t) _ _ _ e) [
  | inl h ↦ percent_spells t (drop 1 t) p (marked 37 t h.0) h.1
  | inr h ↦
      let n = prefix_len is_plain t in
      let len : length (take n t) ≡ n = length-prefix_len is_plain t in
      let made : Part × List ℕ = (parts.Literal (take n t), drop n t) in
      let taken : TakesSo IsPart t made = (take n t, inl (omega (arith, len, plain_some t here h.0), (run_all is_plain t, run_stop is_plain t, refl)), sym (take-append-drop n t)) in
      subst (λ (q : Part × List ℕ). TakesSo IsPart t q) (ok_is {K = TplKind} made p h.1) taken
]

pub part_some : (s r : List ℕ) (x : Part) → IsPart s r x → 0 < length s
part_some s r (parts.Literal run) h = elim h [
  | inl a ↦ a.0
  | inr a ↦ elim a [ inl b ↦ omega (arith, ap length b.0) | inr b ↦ omega (arith, ap length b.2) ]
]
part_some s r (parts.Field field) h = omega (arith, ap length h.2)

no_rest : (r : List ℕ) → is_left r ≡ false → r ≡ []
no_rest [] h = refl
no_rest (b ∷ r) h = absurd cc

ends_empty : (s r : List ℕ) (xs : List Part) → AllOf is_left IsPart s r xs → is_left r ≡ false
ends_empty s r [] h = h.1
ends_empty s r (x ∷ xs) h = ends_empty h.1 r xs h.3

whole_spells : (t : List ℕ) (xs : List Part) → whole_at t ≡ Ok xs → IsSpelled t xs
unfolding whole_at
whole_spells t xs e =
    let a = bind_ok (all_at is_left part_at t) (λ parts. Ok parts.0) xs e in
    let one = all_spells is_left part_at IsPart refl part_some part_spells t a.0 a.1 in
    let empty = no_rest a.0.1 (ends_empty one.0 a.0.1 a.0.0 one.1) in
    let same : one.0 ≡ t = sym (one.2 ∙ ap (λ (l : List ℕ). one.0 ++ l) empty ∙ append-nil one.0) in
    let whole : AllOf is_left IsPart one.0 [] a.0.0 = subst (λ (l : List ℕ). AllOf is_left IsPart one.0 l a.0.0) empty one.1 in
    subst (λ (ys : List Part). IsSpelled t ys) (ok_is {K = TplKind} a.0.0 xs a.2) (subst (λ (l : List ℕ). IsSpelled l a.0.0) same whole)

-- what is accepted is spelled so
pub template_spells : (t : List ℕ) (xs : List Part) → template_of t ≡ Ok xs → IsSpelled t xs
template_spells t xs e = whole_spells t xs (placed_ok fault_at t (whole_at t) xs e)
