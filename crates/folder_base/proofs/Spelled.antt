-- Stems that begin alike and end in different numbers are apart.
use Rattle.std.proofs.Common.{◌≡◌, ⊎_elim, ◌∙◌, ℕ, zero, suc, ◌<◌, ◌≤◌, ◌^◌, Bool, true, false, ◌&&◌, List, [], ◌∷◌, ◌++◌, refl, sym, ap, nat_eq, arith, append_assoc}
use Rattle.std.specs.Prelude.{bytes_eq, All}
use Rattle.std.specs.Fmt.{decimal}
use Rattle.std.specs.Str.Parse.{AllDigits}
use Rattle.std.proofs.lemmas.Bool.Decides.{Decides-eqb}
use Rattle.std.proofs.lemmas.Fmt.{decimal_is_IsNumeral, decimal_injective}
use Rattle.std.proofs.lemmas.List.{append_cancel_left}
use Rattle.std.proofs.lemmas.List.Elements.{All-nil, All-head, All-tail, All-push}
use Rattle.std.proofs.lemmas.Slice.Eq.{bytes_eq-Decides}
use Rattle.std.proofs.lemmas.Str.Parse.{digit_from_value}
use Rattle.folder_base.specs.Disk.{Name, begins}
use Rattle.folder_base.specs.Parts.{is_part, AreApart}
use Rattle.folder_base.proofs.Disjoint.{both_so, some_so}

not_so : (b : Bool) → (b ≡ true → ⊥) → b ≡ false
not_so true never = absurd (never refl)
not_so false never = refl

same_front : (front rest name : Name) → begins (front ++ rest) (front ++ name) ≡ begins rest name
same_front [] rest name = refl
same_front (c ∷ front) rest name = (λ i. (Decides-eqb c c).1 refl i && begins (front ++ rest) (front ++ name)) ∙ same_front front rest name

-- Digits hold no point.
no_point : (stem digits : Name) → AllDigits 10 digits → begins (stem ++ 46 ∷ []) digits ≡ true → ⊥
no_point [] [] all e = absurd (cc)
no_point [] (d ∷ digits) all e =
    let is : 46 ≡ d = (Decides-eqb 46 d).0 (both_so (nat_eq 46 d) (begins [] digits) e).0 in
    let digit = digit_from_value d all.0 in
    omega arith
no_point (c ∷ stem) [] all e = absurd (cc)
no_point (c ∷ stem) (d ∷ digits) all e = no_point stem digits all.1 (both_so (nat_eq c d) (begins (stem ++ 46 ∷ []) digits) e).1

not_part : (front digits others : Name) → AllDigits 10 others → (digits ≡ others → ⊥) → is_part (front ++ digits) (front ++ others) ≡ false
not_part front digits others all differ = not_so (is_part (front ++ digits) (front ++ others)) (λ e. ⊎_elim
    (λ same. differ (append_cancel_left front digits others ((bytes_eq-Decides (front ++ digits) (front ++ others)).0 same)))
    (λ longer. no_point digits others all
    (sym (same_front front (digits ++ 46 ∷ []) others) ∙ ap (λ (l : Name). begins l (front ++ others)) (sym (append_assoc front digits (46 ∷ []))) ∙ longer))
    (some_so (bytes_eq (front ++ digits) (front ++ others)) (begins ((front ++ digits) ++ 46 ∷ []) (front ++ others)) e))

abbrev Apart : Name → Name → Type 0
Apart stem other = (is_part stem other ≡ false) × (is_part other stem ≡ false)

apart_more : (stems : List Name) (name : Name) → AreApart stems → All (λ stem. Apart stem name) stems → AreApart (stems ++ name ∷ [])
apart_more [] name apart all = (All-nil (Apart name), tt)
apart_more (stem ∷ stems) name apart all = (
  All-push (Apart stem) stems name apart.0 (All-head (λ (s : Name). Apart s name) stem stems all),
  apart_more stems name apart.1 (All-tail (λ (s : Name). Apart s name) stem stems all),
)

-- the stems with the numbers below this one
abbrev pub numbered_stems : Name → ℕ → List Name
numbered_stems front zero = []
numbered_stems front (suc count) = numbered_stems front count ++ (front ++ decimal count) ∷ []

module _ (front : Name) where
  differ_so : (m n : ℕ) → m < n → n < 2 ^ 64 → Apart (front ++ decimal m) (front ++ decimal n)
  differ_so m n less small = (
    not_part front (decimal m) (decimal n) (decimal_is_IsNumeral n small).0.1 (λ e. omega (arith, decimal_injective m n (omega arith) small e)),
    not_part front (decimal n) (decimal m) (decimal_is_IsNumeral m (omega arith)).0.1 (λ e. omega (arith, decimal_injective n m small (omega arith) e)),
  )

  less_apart : (count number : ℕ) → count ≤ number → number < 2 ^ 64 → All (λ stem. Apart stem (front ++ decimal number)) (numbered_stems front count)
  less_apart zero number less small = All-nil (λ stem. Apart stem (front ++ decimal number))
  less_apart (suc count) number less small =
      All-push (λ (stem : Name). Apart stem (front ++ decimal number)) (numbered_stems front count) (front ++ decimal count)
      (less_apart count number (omega arith) small) (differ_so count number (omega arith) small)

  pub numbered_apart : (count : ℕ) → count ≤ 2 ^ 64 → AreApart (numbered_stems front count)
  numbered_apart zero small = tt
  numbered_apart (suc count) small =
      apart_more (numbered_stems front count) (front ++ decimal count) (numbered_apart count (omega arith)) (less_apart count count (omega arith) (omega arith))
