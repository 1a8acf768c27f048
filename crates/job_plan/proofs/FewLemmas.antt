-- A selector of which no part has too many choices has at most 10,000.
use Rattle.std.proofs.Common.{◌≡◌, ℕ, ◌*◌, ◌≤◌, List, [], ◌∷◌, ◌++◌, Bool, true, false, cond, map, length, refl, ◌∙◌, ap, subst, arith, length-append}
use Rattle.std.specs.Prelude.{◌||◌, Result, Ok, Err, filter, if◌then◌else◌}
use Rattle.std.specs.List.{flat_map}
use Rattle.std.proofs.lemmas.Bool.Decides.{nat_tests}
use Rattle.std.proofs.lemmas.List.{length-map}
use Rattle.sel_lang.specs.Plain.{Plain, list, first, merge, narrow, name, Plains, no_plains, a_plain, PlainFilter}
use Rattle.sel_lang.specs.declared.pick.Pick.{Pick}
use Rattle.sel_eval.specs.declared.streams.Streams.{Streams}
use Rattle.sel_eval.specs.Placed.{Placed}
use Rattle.sel_eval.specs.Keep.{keep}
use Rattle.sel_eval.specs.Picks.{picks, is_choice}
use Rattle.sel_eval.specs.Den.{Choices, den, den_each, large, any_large, first_large, joined, first_found, products, product_count, merged, meeting, is_over, is_none}
use Rattle.sel_eval.specs.Answer.{combo_of, combos, is_large, have_both, in_order}
use Rattle.info_item.specs.Item.{Item}
use Rattle.job_plan.specs.Plan.{Plan}
use Rattle.job_plan.specs.Draft.{Choice}
use Rattle.job_plan.specs.Jobs.{choices_of, some_choice}
use Rattle.job_plan.specs.declared.fault.JobFault.{JobFault}
use Rattle.job_plan.specs.declared.fault.JobFault.TheVariants.{TooMany}

not_over : (n : ℕ) → is_over n ≡ false → n ≤ 10000
not_over n e = grind (arith, nat_tests)

second : (a b : Bool) → (a || b) ≡ false → b ≡ false
second true b e = absurd (cc)
second false b e = e

first_of_both : (a b : Bool) → (a || b) ≡ false → a ≡ false
first_of_both true b e = e
first_of_both false b e = refl

-- ---- the rows of a merge

rows_count : (choices rows : Choices) → length (flat_map (λ c. map (λ d. c ++ d) rows) choices) ≡ length choices * length rows
rows_count [] rows = omega arith
rows_count (c ∷ choices) rows =
    length-append (map (λ d. c ++ d) rows) (flat_map (λ other. map (λ d. other ++ d) rows) choices)
    ∙ omega (arith, length-map rows (λ d. c ++ d), rows_count choices rows)

all_rows : (all : List Choices) → length (products all) ≡ product_count all
all_rows [] = refl
all_rows (choices ∷ all) = rows_count choices (products all) ∙ ap (λ (n : ℕ). length choices * n) (all_rows all)

fewer_left : (rows : Choices) → length (filter is_choice rows) ≤ length rows
fewer_left [] = omega arith
fewer_left (row ∷ rows) = by (is_choice row) (fewer_left rows)
  where
    by : (b : Bool) → length (filter is_choice rows) ≤ length rows → length (cond b (row ∷ filter is_choice rows) (filter is_choice rows)) ≤ length (row ∷ rows)
    by true rest = omega arith
    by false rest = omega arith

few_merged : (streams : Streams) (all : List Choices) → product_count all ≤ 10000 → length (merged streams all) ≤ 10000
few_merged streams all few =
    omega (arith, fewer_left (map (keep streams) (products all)), length-map (products all) (keep streams), all_rows all)

-- ---- by the parts of a selector

module _ (streams : Streams) (both : Bool) where
  few_list : (xs : Plains) (ps : List Placed) → large streams both (list xs) ps ≡ false → length (den streams both (list xs) ps) ≤ 10000
  unfolding den large
  few_list xs ps e = not_over (length (joined (den_each streams both xs ps))) (second (any_large streams both xs ps) (is_over (length (joined (den_each streams both xs ps)))) e)

  few_merge : (xs : Plains) (ps : List Placed) → large streams both (merge xs) ps ≡ false → length (den streams both (merge xs) ps) ≤ 10000
  unfolding den large
  few_merge xs ps e =
      few_merged streams (den_each streams both xs ps)
      (not_over (product_count (den_each streams both xs ps)) (second (any_large streams both xs ps) (is_over (product_count (den_each streams both xs ps))) e))

  few_name : (pick : Pick) (ps : List Placed) → large streams both (name pick) ps ≡ false → length (den streams both (name pick) ps) ≤ 10000
  unfolding den large
  few_name pick ps e = not_over (length (picks streams both pick ps)) e

  large_first : (xs : Plains) (ps : List Placed) → large streams both (first xs) ps ≡ false → first_large streams both xs ps ≡ false
  unfolding den large
  large_first xs ps e = e

  large_narrow : (x : Plain) (f : PlainFilter) (ps : List Placed) → large streams both (narrow x f) ps ≡ false → large streams both x (meeting f ps) ≡ false
  unfolding den large
  large_narrow x f ps e = e

  den_first : (xs : Plains) (ps : List Placed) → first_found (den_each streams both xs ps) ≡ den streams both (first xs) ps
  unfolding den
  den_first xs ps = refl

  den_narrow : (x : Plain) (f : PlainFilter) (ps : List Placed) → den streams both x (meeting f ps) ≡ den streams both (narrow x f) ps
  unfolding den
  den_narrow x f ps = refl

  none_found : (ps : List Placed) → length (first_found (den_each streams both no_plains ps)) ≤ 10000
  unfolding den
  none_found ps = omega arith

  here_found : (x : Plain) (xs : Plains) (ps : List Placed) → first_large streams both (a_plain x xs) ps ≡ false → large streams both x ps ≡ false
  unfolding den large
  here_found x xs ps e = first_of_both (large streams both x ps) (if is_none (den streams both x ps) then first_large streams both xs ps else false) e

  more_found : (x : Plain) (xs : Plains) (ps : List Placed) → first_large streams both (a_plain x xs) ps ≡ false → length (den streams both x ps) ≤ 10000 →
      (first_large streams both xs ps ≡ false → length (first_found (den_each streams both xs ps)) ≤ 10000) → length (first_found (den_each streams both (a_plain x xs) ps)) ≤ 10000
  unfolding den large
  more_found x xs ps e here there =
      by (den streams both x ps) here
      (second (large streams both x ps) (if is_none (den streams both x ps) then first_large streams both xs ps else false) e)
    where
      by : (choices : Choices) → length choices ≤ 10000 → (if is_none choices then first_large streams both xs ps else false) ≡ false →
          length (first_found (choices ∷ den_each streams both xs ps)) ≤ 10000
      by [] few rest = there rest
      by (c ∷ cs) few rest = few

  mutual
    few_choices : (x : Plain) (ps : List Placed) → large streams both x ps ≡ false → length (den streams both x ps) ≤ 10000
    few_choices (list xs) ps e = few_list xs ps e
    few_choices (first xs) ps e = subst (λ (choices : Choices). length choices ≤ 10000) (den_first xs ps) (few_found xs ps (large_first xs ps e))
    few_choices (merge xs) ps e = few_merge xs ps e
    few_choices (narrow x f) ps e = subst (λ (choices : Choices). length choices ≤ 10000) (den_narrow x f ps) (few_choices x (meeting f ps) (large_narrow x f ps e))
    few_choices (name pick) ps e = few_name pick ps e

    few_found : (xs : Plains) (ps : List Placed) → first_large streams both xs ps ≡ false → length (first_found (den_each streams both xs ps)) ≤ 10000
    few_found no_plains ps e = none_found ps
    few_found (a_plain x xs) ps e = more_found x xs ps e (few_choices x ps (here_found x xs ps e)) (few_found xs ps)

-- the combinations are that few
pub few_combos : (streams : Streams) (item : Item) (order : List ℕ) (sel : Plain) → is_large streams item order sel ≡ false → length (combos streams item order sel) ≤ 10000
few_combos streams item order sel e =
    let choices = den streams (have_both item.formats) sel (in_order item order) in
    omega (arith, length-map choices (combo_of streams), few_choices streams (have_both item.formats) sel (in_order item order) e)

-- an item has at most so many entries
pub few_entries : (plan : Plan) (item : Item) (order : List ℕ) → length (choices_of plan item order) ≤ 10000
few_entries plan item order = by (is_large plan.streams item order plan.sel) refl
  where
    some : (choices : List Choice) → length choices ≤ 10000 → length (some_choice choices) ≤ 10000
    some [] few = omega arith
    some (choice ∷ choices) few =
        let good : Choice → Result Choice JobFault = Ok in omega (arith, length-map choices good, few)

    by : (b : Bool) → is_large plan.streams item order plan.sel ≡ b →
        length (if b then Err TooMany ∷ [] else some_choice (combos plan.streams item order plan.sel)) ≤ 10000
    by true e = omega arith
    by false e = some (combos plan.streams item order plan.sel) (few_combos plan.streams item order plan.sel e)
