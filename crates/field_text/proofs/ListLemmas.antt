-- A list's texts, one value after another.
use Rattle.std.proofs.Common.{◌≡◌, ℕ, zero, suc, List, [], ◌∷◌, ◌++◌, ◌+◌, take, refl, sym, ap, ◌∙◌, arith, append_assoc, append-nil, false, eqb}
use Rattle.std.specs.Prelude.{Some, slice_get, if◌then◌else◌}
use Rattle.std.specs.List.{join_by, flat_map}
use Rattle.std.proofs.lemmas.Bool.{ne_eqb}

module _ {A : Type 0} (f : A → List ℕ) (between : List ℕ) where
  behind_more : (xs : List A) (i : ℕ) (x : A) → slice_get xs i ≡ Some x →
      flat_map (λ y. between ++ f y) (take (suc i) xs) ≡ flat_map (λ y. between ++ f y) (take i xs) ++ (between ++ f x)
  behind_more [] i x e = absurd (cc e)
  behind_more (y ∷ ys) zero x e = let same : y ≡ x = cc e in rw (same, append-nil) refl
  behind_more (y ∷ ys) (suc i) x e =
      ap (λ l. (between ++ f y) ++ l) (behind_more ys i x e) ∙ sym (append_assoc (between ++ f y) (flat_map (λ z. between ++ f z) (take i ys)) (between ++ f x))

  -- one value more, with what stands between before it where it is not the first
  pub listed_more : (xs : List A) (i : ℕ) (x : A) → slice_get xs i ≡ Some x →
      join_by f between (take (i + 1) xs) ≡ join_by f between (take i xs) ++ ((if eqb i 0 then [] else between) ++ f x)
  listed_more [] i x e = absurd (cc e)
  listed_more (y ∷ ys) zero x e = let same : y ≡ x = cc e in rw (same, append-nil) refl
  listed_more (y ∷ ys) (suc i) x e =
      let next : suc i + 1 ≡ suc (suc i) = omega arith in
      let some : eqb (suc i) 0 ≡ false = ne_eqb (suc i) 0 (λ z. omega arith) in
      rw (next, some) (ap (λ l. f y ++ l) (behind_more ys i x e) ∙ sym (append_assoc (f y) (flat_map (λ z. between ++ f z) (take i ys)) (between ++ f x)))

  -- the same, as it is appended
  pub listed_step : (xs : List A) (i : ℕ) (x : A) (out so_far behind new : List ℕ) → slice_get xs i ≡ Some x →
      so_far ≡ out ++ join_by f between (take i xs) → behind ≡ so_far ++ (if eqb i 0 then [] else between) → new ≡ behind ++ f x →
      new ≡ out ++ join_by f between (take (i + 1) xs)
  listed_step xs i x out so_far behind new e s b n =
      let mark = if eqb i 0 then [] else between in
      n ∙ ap (λ l. l ++ f x) (b ∙ ap (λ l. l ++ mark) s) ∙ append_assoc (out ++ join_by f between (take i xs)) mark (f x)
      ∙ append_assoc out (join_by f between (take i xs)) (mark ++ f x) ∙ ap (λ l. out ++ l) (sym (listed_more xs i x e))
