-- What is read between quotes that are closed does not depend on what follows them.
use Rattle.std.proofs.Common.{◌≡◌, ℕ, ◌<◌, ◌≤◌, Bool, true, false, List, [], ◌∷◌, ◌++◌, length, Some, ap, sym, subst, ◌∙◌, arith, inl, inr}
use Rattle.std.specs.Prelude.{◌==◌}
use Rattle.std.proofs.lemmas.List.{length-append}
use Rattle.read_base.proofs.StepLemmas.{chosen}
use Rattle.sel_lang.specs.Filters.{put, unquoted}
use Rattle.sel_lang.proofs.FilterSpellsLemmas.{pair, pair_is, put_some}

abbrev second : List ℕ × List ℕ → List ℕ
second x = x.1

-- what stands behind the closing quote is an end of the text
pub unquoted_end : (quote : ℕ) (t : List ℕ) (as_is : Bool) (x : List ℕ × List ℕ) → unquoted quote as_is t ≡ Some x → (s : List ℕ) × (0 < length s) × (t ≡ s ++ x.1)
unfolding unquoted
unquoted_end quote [] as_is x e = absurd cc
unquoted_end quote (b ∷ t) true x e =
    let y = put_some b (unquoted quote false t) x e in
    let n = unquoted_end quote t false y.0 y.1 in
    (b ∷ n.0, omega arith, ap (λ (l : List ℕ). b ∷ l) (n.2 ∙ ap (λ (z : List ℕ × List ℕ). n.0 ++ z.1) y.2))
unquoted_end quote (b ∷ t) false x e = elim (chosen (b == quote) _ _ _ e) [
  | inl h ↦ (b ∷ [], omega arith, ap (λ (z : List ℕ × List ℕ). b ∷ z.1) (pair_is ([], t) x h.1))
  | inr h ↦ elim (chosen (b == 92) _ _ _ h.1) [
    | inl k ↦ let n = unquoted_end quote t true x k.1 in (b ∷ n.0, omega arith, ap (λ (l : List ℕ). b ∷ l) n.2)
    | inr k ↦
        let y = put_some b (unquoted quote false t) x k.1 in
        let n = unquoted_end quote t false y.0 y.1 in
        (b ∷ n.0, omega arith, ap (λ (l : List ℕ). b ∷ l) (n.2 ∙ ap (λ (z : List ℕ × List ℕ). n.0 ++ z.1) y.2))
  ]
]

abbrev pub Goes : ℕ → Bool → List ℕ → List ℕ → List ℕ → List ℕ × List ℕ → Type 0
Goes quote as_is s c d x = (r : List ℕ) × (x.1 ≡ r ++ c) × (unquoted quote as_is (s ++ d) ≡ Some (x.0, r ++ d))

too_short : (quote : ℕ) (c : List ℕ) (as_is : Bool) (x : List ℕ × List ℕ) → unquoted quote as_is c ≡ Some x → length c ≤ length x.1 → ⊥
too_short quote c as_is x e h = let n = unquoted_end quote c as_is x e in omega (arith, h, n.1, ap length n.2, length-append n.0 x.1)

put_goes : (b : ℕ) (s d r : List ℕ) (quote : ℕ) (x y : List ℕ × List ℕ) → (b ∷ y.0, y.1) ≡ x → unquoted quote false (s ++ d) ≡ Some (y.0, r ++ d) → put b (unquoted quote false (s ++ d)) ≡ Some (x.0, r ++ d)
put_goes b s d r quote x y h e = ap (put b) e ∙ ap (λ (z : List ℕ × List ℕ). pair (z.0, r ++ d)) h

-- a quote that is closed before c is closed before d
pub unquoted_moves : (quote : ℕ) (s c d : List ℕ) (as_is : Bool) (x : List ℕ × List ℕ) → unquoted quote as_is (s ++ c) ≡ Some x → length c ≤ length x.1 → Goes quote as_is s c d x
unfolding unquoted
unquoted_moves quote [] c d as_is x e h = absurd (too_short quote c as_is x e h)
unquoted_moves quote (b ∷ s) c d true x e h =
    let y = put_some b (unquoted quote false (s ++ c)) x e in
    let same : y.0.1 ≡ x.1 = ap second y.2 in
    let m = unquoted_moves quote s c d false y.0 y.1 (subst (λ (l : List ℕ). length c ≤ length l) (sym same) h) in
    (m.0, sym same ∙ m.1, put_goes b s d m.0 quote x y.0 y.2 m.2)
unquoted_moves quote (b ∷ s) c d false x e h = elim (chosen (b == quote) _ _ _ e) [
  | inl k ↦
      let is = pair_is ([], s ++ c) x k.1 in
      (s, sym (ap second is), rw k.0 (ap (λ (z : List ℕ × List ℕ). pair (z.0, s ++ d)) is))
  | inr k ↦ elim (chosen (b == 92) _ _ _ k.1) [
    | inl n ↦ let m = unquoted_moves quote s c d true x n.1 h in (m.0, m.1, rw (k.0, n.0) m.2)
    | inr n ↦
        let y = put_some b (unquoted quote false (s ++ c)) x n.1 in
        let same : y.0.1 ≡ x.1 = ap second y.2 in
        let m = unquoted_moves quote s c d false y.0 y.1 (subst (λ (l : List ℕ). length c ≤ length l) (sym same) h) in
        (m.0, sym same ∙ m.1, rw (k.0, n.0) (put_goes b s d m.0 quote x y.0 y.2 m.2))
  ]
]
