-- When the count of faults rises as parts come back.
use Rattle.std.proofs.Common.{◌≡◌, inl, inr, ℕ, ◌≤◌, Bool, true, false, ◌||◌, List, [], ◌∷◌, map, refl, sym, ◌∙◌, ap, subst, arith}
use Rattle.std.specs.Prelude.{All, MatchBool, nat_lt}
use Rattle.std.specs.List.{list_any}
use Rattle.std.proofs.lemmas.Bool.Decides.{nat_tests}
use Rattle.std.proofs.lemmas.List.Elements.{All-head, All-tail, All-map}
use Rattle.text_base.specs.Causes.{Rose}
use Rattle.folder_base.specs.Story.{World, SomeRose, RosesWith, Begins, Collects}
use Rattle.disk_folder.specs.Silent.{silent}
use Rattle.folder_base.proofs.Disjoint.{so_left, so_right}

module _ (count : World → ℕ) where
  some_counted : (parts : List World) → SomeRose count parts → list_any (λ part. nat_lt 0 (count part)) parts ≡ true
  some_counted [] rose = absurd rose
  some_counted (part ∷ parts) (inl here) = so_left (nat_lt 0 (count part)) (list_any (λ p. nat_lt 0 (count p)) parts) (grind (arith, nat_tests))
  some_counted (part ∷ parts) (inr there) = so_right (nat_lt 0 (count part)) (list_any (λ p. nat_lt 0 (count p)) parts) (some_counted parts there)

  none_counted : (parts : List World) → All (λ part. count part ≡ 0) parts → list_any (λ part. nat_lt 0 (count part)) parts ≡ false
  none_counted [] none = refl
  none_counted (part ∷ parts) none =
      ap (λ (n : ℕ). nat_lt 0 n || list_any (λ p. nat_lt 0 (count p)) parts) (All-head (λ (w : World). count w ≡ 0) part parts none) ∙ none_counted parts (All-tail (λ (w : World). count w ≡ 0) part parts none)

  -- A count that rises where that of some part has risen.
  pub roses_with : (parts : List World) (old new : World) (flag : Bool) → flag ≡ list_any (λ part. nat_lt 0 (count part)) parts → MatchBool flag (Rose (count old) (count new)) (count new ≡ count old) → count old ≤ count new → RosesWith count parts old new
  roses_with parts old new true is rose later = record { later = later; rose = λ some. rose; stood = λ none. let bad : true ≡ false = is ∙ none_counted parts none in absurd (cc) }
  roses_with parts old new false is stood later = record { later = later; rose = λ some. let bad : false ≡ true = is ∙ some_counted parts some in absurd (cc); stood = λ none. stood }

  -- A count that is 0 everywhere.
  pub never_rose : (parts : List World) (old new : World) → count old ≡ 0 → count new ≡ 0 → All (λ part. count part ≡ 0) parts → RosesWith count parts old new
  never_rose parts old new before now none = record {
    later = omega (arith, before, now);
    rose = λ some. let bad : false ≡ true = sym (none_counted parts none) ∙ some_counted parts some in absurd (cc);
    stood = λ all. now ∙ sym before;
  }

-- Parts that tell nothing yet begin.
pub all_begin : {A : Type 0} (world : A → World) (faults : ℕ) (parts : List A) → All (λ part. world part ≡ silent 0) parts → All (Begins (silent faults)) (map world parts)
all_begin world faults parts begun = All-map (Begins (silent faults)) world parts (λ k d below. subst (Begins (silent faults)) (sym (begun k d below)) (record { tells = refl; steady = refl; faults = refl; refusals = refl }))

any_map : {A : Type 0} (world : A → World) (parts : List A) → list_any (λ part. nat_lt 0 part.faults) (map world parts) ≡ list_any (λ part. nat_lt 0 (world part).faults) parts
any_map world [] = refl
any_map world (part ∷ parts) = ap (λ (b : Bool). nat_lt 0 (world part).faults || b) (any_map world parts)

-- What comes of parts that tell their faults alone.
pub collects : {A : Type 0} (world : A → World) (before now : ℕ) (parts : List A) (flag : Bool) → ((part : A) → (world part).refusals ≡ 0) → flag ≡ list_any (λ part. nat_lt 0 (world part).faults) parts
    → MatchBool flag (Rose before now) (now ≡ before) → before ≤ now → Collects (map world parts) (silent before) (silent now)
collects world before now parts flag zero is count later = record {
  tells = λ e. e;
  still_tells = λ e. e;
  steady = λ e. e;
  faults = roses_with (λ (w : World). w.faults) (map world parts) (silent before) (silent now) flag (is ∙ sym (any_map world parts)) count later;
  refusals = never_rose (λ (w : World). w.refusals) (map world parts) (silent before) (silent now) refl refl (All-map (λ (w : World). w.refusals ≡ 0) world parts (λ k d below. zero _));
}
