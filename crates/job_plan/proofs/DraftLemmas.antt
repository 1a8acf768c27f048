-- Drafts of jobs: the final name is that of the last step's output.
use Rattle.std.proofs.Common.{◌≡◌, ◌∙◌, ℕ, ◌-◌, List, [], ◌∷◌, length, map, ap, sym, refl, arith}
use Rattle.std.specs.Prelude.{Option, Some, None, option_map, option_and_then, slice_get}
use Rattle.std.specs.List.{last_or}
use Rattle.job_names.specs.Naming.{with_ext}
use Rattle.job_names.specs.declared.naming.SplitName.{SplitName}
use Rattle.job_steps.specs.declared.steps.Step.{Step as HeldStep}
use Rattle.job_steps.specs.Steps.{Step}
use Rattle.job_steps.specs.Views.{plain_step}
use Rattle.info_tree.specs.Tree.{Tree}
use Rattle.info_item.specs.Item.{Item, Format}
use Rattle.name_text.specs.Clean.{cleaned}
use Rattle.job_names.specs.Text.{Text}
use Rattle.job_plan.specs.Plan.{Plan}
use Rattle.job_plan.specs.Draft.{Draft, Choice, Named, final_by, final_of, name_pairs, chosen_parts, named, draft_of_name, draft_of}

-- the last of one and some
last_behind : {A : Type 0} (x : A) (xs : List A) → slice_get (x ∷ xs) (length xs) ≡ last_or (Some x) xs
last_behind x [] = refl
last_behind x (y ∷ xs) = last_behind y xs

-- what stands at the last place
last_at : {A : Type 0} (xs : List A) → slice_get xs (length xs - 1) ≡ last_or None xs
last_at [] = refl
last_at (x ∷ xs) =
    let place : length (x ∷ xs) - 1 ≡ length xs = omega arith in
    ap (slice_get (x ∷ xs)) place ∙ last_behind x xs

-- the last one as it is seen
last_seen : {A B : Type 0} (view : A → B) (o : Option A) (xs : List A) → last_or (option_map view o) (map view xs) ≡ option_map view (last_or o xs)
last_seen view o [] = refl
last_seen view o (x ∷ xs) = last_seen view (Some x) xs

-- the final name of steps that end with this one
pub final_behind : (name : SplitName) (steps : List HeldStep) (step : HeldStep) → Some step ≡ slice_get steps (length steps - 1) →
    with_ext name.stem step.ext.now ≡ final_of name (map plain_step steps)
final_behind name steps step is =
    let last : Some (plain_step step) ≡ last_or None (map plain_step steps) =
    ap (option_map plain_step) (is ∙ last_at steps) ∙ sym (last_seen plain_step None steps) in
    ap (λ (o : Option Step). final_by name (option_map (λ (s : Step). s.ext) o)) last

-- the draft of a name is that of its choice
pub draft_is : (plan : Plan) (number : ℕ) (item : Item) (choice : Choice) (ps own_ps : List (Text × Tree)) (parts own_parts : List Format) (ext clean_ext : Text) (n : Named) →
    ps ≡ name_pairs item choice number → own_ps ≡ name_pairs item choice number → parts ≡ chosen_parts item choice → own_parts ≡ chosen_parts item choice → ext ≡ choice.1 →
    clean_ext ≡ cleaned plan.restricted choice.1 → named plan ps parts ext clean_ext ≡ Some n → draft_of_name plan own_ps choice own_parts n ≡ draft_of plan number item choice
draft_is plan number item choice ps own_ps parts own_parts ext clean_ext n at own_at are own_are so clean is =
    let from : List (Text × Tree) → List Format → Named → Option Draft = λ l fs. draft_of_name plan l choice fs in
    let pairs = name_pairs item choice number in
    let chosen = chosen_parts item choice in
    ap (λ (l : List (Text × Tree)). from l own_parts n) own_at ∙ ap (λ (fs : List Format). from pairs fs n) own_are
    ∙ ap (option_and_then (from pairs chosen)) (sym is)
    ∙ ap (λ (l : List (Text × Tree)). option_and_then (from pairs chosen) (named plan l parts ext clean_ext)) at
    ∙ ap (λ (fs : List Format). option_and_then (from pairs chosen) (named plan pairs fs ext clean_ext)) are
    ∙ ap (λ (e : Text). option_and_then (from pairs chosen) (named plan pairs chosen e clean_ext)) so
    ∙ ap (λ (e : Text). option_and_then (from pairs chosen) (named plan pairs chosen choice.1 e)) clean
