-- How an index of stems grows.
use Rattle.std.proofs.Common.{◌≡◌, ◌⊎◌, inl, inr, ⊎_elim, ℕ, zero, suc, Bool, true, false, List, [], ◌∷◌, ◌++◌, refl, sym, ◌∙◌, ap, subst, length, arith}
use Rattle.std.specs.Prelude.{Option, Some, IsSome, bytes_eq, slice_get, Vec}
use Rattle.std.specs.BTreeMap.{BTreeMap, UpdatesBy}
use Rattle.std.specs.Cmp.Lexicographic.{slice_cmp}
use Rattle.std.specs.Ordering.{nat_cmp, is_eq}
use Rattle.std.specs.Map.{lookup, IsKeyTest, AreApart, KeepsOthers}
use Rattle.std.specs.declared.alloc.Global.{Global}
use Rattle.std.proofs.lemmas.Map.Text.{is_eq-slice_cmp}
use Rattle.std.proofs.lemmas.Cmp.{nat_list_eq_equiv, nat_list_cmp_total, eq_by_cmp_equiv}
use Rattle.folder_base.specs.Disk.{Name}
use Rattle.folder_base.specs.Index.{place_of, IsIndex}
use Rattle.folder_base.proofs.Images.{same_or_not}

apart_in_order : (bs cs ks : Name) → bytes_eq bs cs ≡ false → is_eq (slice_cmp nat_cmp bs ks) ≡ true → is_eq (slice_cmp nat_cmp cs ks) ≡ false
apart_in_order bs cs ks n y = is_eq-slice_cmp cs ks ∙ nat_list_eq_equiv.symm cs ks ∙ sym (nat_list_eq_equiv.congr bs ks cs (sym (is_eq-slice_cmp bs ks) ∙ y)) ∙ n

module _ {K : Type 0} (eq : K → K → Bool) (test : K → Bool) where
  other_entries : {X : Type 0} (old new : List (K × X)) → KeepsOthers eq test old new → (other : K → Bool) → IsKeyTest eq other → AreApart test other → lookup other new ≡ lookup other old
  unfolding KeepsOthers
  other_entries old new h = h

module _ (stem : Name) (old new : BTreeMap (Vec ℕ Global) ℕ) (w : Option ℕ) (updates : UpdatesBy (λ x y. slice_cmp nat_cmp x.items y.items) (λ k. slice_cmp nat_cmp stem k.items) old new w) where
  pub place_here : place_of new stem ≡ w
  place_here = updates.1

  pub place_there : (other : Name) → bytes_eq stem other ≡ false → place_of new other ≡ place_of old other
  place_there other e = other_entries _ _ _ _ updates.3 _ (λ x y. (eq_by_cmp_equiv nat_list_cmp_total).congr other x.items y.items) (λ k. apart_in_order stem other k.items e)

stands_more : (front : List Name) (stem other : Name) (at : ℕ) → slice_get (front ++ stem ∷ []) at ≡ Some other → (slice_get front at ≡ Some other) ⊎ ((stem ≡ other) × (at ≡ length front))
stands_more [] stem other zero e = inr ((let f : stem ≡ other = cc in f), refl)
stands_more [] stem other (suc at) e = absurd (cc)
stands_more (first ∷ front) stem other zero e = inl e
stands_more (first ∷ front) stem other (suc at) e = ⊎_elim (λ h. inl h) (λ h. inr (h.0, omega (arith, h.1))) (stands_more front stem other at e)

stands_still : (front : List Name) (stem other : Name) (at : ℕ) → slice_get front at ≡ Some other → slice_get (front ++ stem ∷ []) at ≡ Some other
stands_still [] stem other at e = absurd (cc)
stands_still (first ∷ front) stem other zero e = e
stands_still (first ∷ front) stem other (suc at) e = stands_still front stem other at e

stands_last : (front : List Name) (stem : Name) → slice_get (front ++ stem ∷ []) (length front) ≡ Some stem
stands_last [] stem = refl
stands_last (first ∷ front) stem = stands_last front stem

-- One stem more, in place of an equal one that had a place.
pub index_more : (front : List Name) (stem : Name) (old new : BTreeMap (Vec ℕ Global) ℕ) → IsIndex front old
    → UpdatesBy (λ x y. slice_cmp nat_cmp x.items y.items) (λ k. slice_cmp nat_cmp stem k.items) old new (Some (length front)) → IsIndex (front ++ stem ∷ []) new
index_more front stem old new was updates = record {
  each = λ at other stands. elim (same_or_not stem other) [
    | inl same ↦ subst (λ (o : Option ℕ). IsSome o) (sym (ap (place_of new) (sym same.1) ∙ place_here stem old new (Some (length front)) updates)) refl
    | inr differs ↦ subst (λ (o : Option ℕ). IsSome o) (sym (place_there stem old new (Some (length front)) updates other differs))
        (⊎_elim (λ before. was.each at other before) (λ last. absurd (let f : bytes_eq stem stem ≡ false = ap (bytes_eq stem) last.0 ∙ differs in cc_no stem f)) (stands_more front stem other at stands))
  ];
  only = λ at other found. elim (same_or_not stem other) [
    | inl same ↦
        let here : Some at ≡ Some (length front) = sym found ∙ ap (place_of new) (sym same.1) ∙ place_here stem old new (Some (length front)) updates in
        let at_is : at ≡ length front = cc in
        ap (slice_get (front ++ stem ∷ [])) at_is ∙ stands_last front stem ∙ ap (λ (n : Name). Some n) same.1
    | inr differs ↦ stands_still front stem other at (was.only at other (sym (place_there stem old new (Some (length front)) updates other differs) ∙ found))
  ];
}
  where
    cc_no : (name : Name) → bytes_eq name name ≡ false → ⊥
    cc_no name f = elim (same_or_not name name) [ inl same ↦ (let e : bytes_eq name name ≡ true = same.0 in absurd (cc)) | inr differs ↦ (let e : bytes_eq name name ≡ true = nat_list_eq_equiv.refl name in absurd (cc)) ]

pub index_next : (all front : List Name) (stem key : Name) (at : ℕ) (old new : BTreeMap (Vec ℕ Global) ℕ) → IsIndex front old → all ≡ front ++ stem ∷ [] → key ≡ stem → at ≡ length front
    → UpdatesBy (λ x y. slice_cmp nat_cmp x.items y.items) (λ k. slice_cmp nat_cmp key k.items) old new (Some at) → IsIndex all new
index_next all front stem key at old new was all_is key_is at_is updates =
    subst (λ (l : List Name). IsIndex l new) (sym all_is) (index_more front stem old new was
    (subst (λ (n : ℕ). UpdatesBy (λ x y. slice_cmp nat_cmp x.items y.items) (λ k. slice_cmp nat_cmp stem k.items) old new (Some n)) at_is
    (subst (λ (s : Name). UpdatesBy (λ x y. slice_cmp nat_cmp x.items y.items) (λ k. slice_cmp nat_cmp s k.items) old new (Some at)) key_is updates)))
