-- The steps of a job: their outputs are apart, and the last one leaves the final file.
use Rattle.std.proofs.Common.{◌≡◌, ◌⊎◌, inr, ℕ, zero, suc, ◌+◌, List, [], ◌∷◌, ◌++◌, true, false, ◌||◌, Option, Some, None, is_some, flat_map, filter_map, map, refl, sym, ◌∙◌, arith}
use Rattle.std.specs.Prelude.{All, bytes_eq, IsTrue}
use Rattle.std.specs.List.{AllByRecursion, list_any, last_or, cons_option}
use Rattle.std.specs.Option.{option_map_or}
use Rattle.std.proofs.lemmas.Bool.{or_parts, or_left, or_right}
use Rattle.std.proofs.lemmas.List.Folds.{list_any-append}
use Rattle.info_item.specs.Item.{Format}
use Rattle.tool_chain.specs.Chain.{InputsCome}
use Rattle.tool_chain.specs.Jobs.{Job as Command, is_output_of, OutputsApart}
use Rattle.job_names.specs.Text.{Text}
use Rattle.job_names.specs.Family.{Names, component_names, own_final, exact_names, has_twice}
use Rattle.job_names.specs.Naming.{output_name}
use Rattle.job_steps.specs.Steps.{Step, commands, exec_command}
use Rattle.job_plan.specs.Laws.{last_output}
use Rattle.job_names.proofs.FamilyLemmas.{text_itself}
use Rattle.job_names.proofs.MapLemmas.{texts_turned}

-- the outputs of children
abbrev pub outputs_of : List Command → List Text
outputs_of jobs = filter_map (λ step. step.output) jobs

-- the text is none of these
abbrev pub IsApart : List Text → Text → Type 0
IsApart texts text = list_any (bytes_eq text) texts ≡ false

pub all_from_each : {A : Type 0} (P : A → Type 0) (xs : List A) → AllByRecursion P xs → All P xs
all_from_each P [] a k d h = absurd (omega (arith, h))
all_from_each P (x ∷ xs) a zero d h = a.0
all_from_each P (x ∷ xs) a (suc k) d h = all_from_each P xs a.1 k d (omega (arith, h))

-- an output is one of the outputs
output_listed : (jobs : List Command) (name : Text) → is_output_of jobs name ≡ list_any (bytes_eq name) (outputs_of jobs)
output_listed [] name = refl
output_listed (job ∷ jobs) name = by job.output (output_listed jobs name)
  where
    by : (o : Option Text) → is_output_of jobs name ≡ list_any (bytes_eq name) (outputs_of jobs) →
        (option_map_or (λ output. bytes_eq output name) o false || is_output_of jobs name) ≡ list_any (bytes_eq name) (cons_option o (outputs_of jobs))
    by None rest = rest
    by (Some output) rest = λ i. texts_turned output name i || rest i

inputs_apart : (jobs : List Command) (inputs : List Text) → AllByRecursion (IsApart (outputs_of jobs)) inputs → AllByRecursion (λ input. is_output_of jobs input ≡ false) inputs
inputs_apart jobs [] a = tt
inputs_apart jobs (input ∷ inputs) a = (output_listed jobs input ∙ a.0, inputs_apart jobs inputs a.1)

-- the children of steps are apart where their outputs differ and none is an input
pub steps_apart : (tool : Text) (parts : List Format) (stem : Text) (k : ℕ) (inputs : List Text) (steps : List Step) →
    AllByRecursion (IsApart (outputs_of (commands tool parts stem k inputs steps))) inputs → has_twice (outputs_of (commands tool parts stem k inputs steps)) ≡ false →
    OutputsApart (commands tool parts stem k inputs steps)
steps_apart tool parts stem k inputs [] a once = tt
steps_apart tool parts stem k inputs (step ∷ steps) a once =
    let name = output_name stem k step.ext in
    let rest = commands tool parts stem (k + 1) (name ∷ []) steps in
    let two = or_parts (list_any (bytes_eq name) (outputs_of rest)) (has_twice (outputs_of rest)) once in (
      all_from_each _ inputs (inputs_apart (commands tool parts stem k inputs (step ∷ steps)) inputs a),
      (output_listed rest name ∙ two.0, steps_apart tool parts stem (k + 1) (name ∷ []) steps (two.0, tt) two.1),
    )

found_behind : (text : Text) (texts names : List Text) → AllByRecursion (λ name. IsTrue (list_any (bytes_eq name) texts)) names →
    AllByRecursion (λ name. IsTrue (list_any (bytes_eq name) (text ∷ texts))) names
found_behind text texts [] a = tt
found_behind text texts (name ∷ names) a = (or_right (bytes_eq name text) (list_any (bytes_eq name) texts) a.0, found_behind text texts names a.1)

-- each of texts is one of them
texts_found : (texts : List Text) → AllByRecursion (λ name. IsTrue (list_any (bytes_eq name) texts)) texts
texts_found [] = tt
texts_found (text ∷ texts) = (or_left (bytes_eq text text) (list_any (bytes_eq text) texts) (text_itself text), found_behind text texts texts (texts_found texts))

inputs_come : (tool : Text) (parts : List Format) (stem : Text) (k : ℕ) (inputs : List Text) (steps : List Step) (There : Text → Type 0) → All There inputs →
    InputsCome There (commands tool parts stem k inputs steps)
inputs_come tool parts stem k inputs [] There a = tt
inputs_come tool parts stem k inputs (step ∷ steps) There a =
    let name = output_name stem k step.ext in (
      a,
      inputs_come tool parts stem (k + 1) (name ∷ []) steps (λ other. There other ⊎ (Some name ≡ Some other))
          (all_from_each (λ other. There other ⊎ (Some name ≡ Some other)) (name ∷ []) (inr refl, tt)),
    )

-- the children of steps read what is fetched, and each other's outputs
pub steps_come : (tool : Text) (parts : List Format) (stem : Text) (k : ℕ) (inputs : List Text) (steps : List Step) →
    InputsCome (λ name. IsTrue (list_any (bytes_eq name) inputs)) (commands tool parts stem k inputs steps)
steps_come tool parts stem k inputs steps =
    inputs_come tool parts stem k inputs steps (λ name. IsTrue (list_any (bytes_eq name) inputs))
    (all_from_each (λ name. IsTrue (list_any (bytes_eq name) inputs)) inputs (texts_found inputs))

-- the commands for a finished file leave none
pub execs_silent : (final : Text) (lines : List Text) → AllByRecursion (λ command. command.output ≡ None) (map (exec_command final) lines)
execs_silent final [] = tt
execs_silent final (line ∷ lines) = (refl, execs_silent final lines)

-- the last of children has an output
last_of : (tool : Text) (parts : List Format) (stem : Text) (k : ℕ) (inputs : List Text) (steps : List Step) (job : Command) → is_some job.output ≡ true →
    is_some (option_map_or (λ step. step.output) (last_or (Some job) (commands tool parts stem k inputs steps)) None) ≡ true
last_of tool parts stem k inputs [] job has = has
last_of tool parts stem k inputs (step ∷ steps) job has =
    last_of tool parts stem (k + 1) (output_name stem k step.ext ∷ []) steps _ refl

pub last_has : (tool : Text) (parts : List Format) (stem : Text) (k : ℕ) (inputs : List Text) (step : Step) (steps : List Step) →
    is_some (last_output (commands tool parts stem k inputs (step ∷ steps))) ≡ true
last_has tool parts stem k inputs step steps = last_of tool parts stem (k + 1) (output_name stem k step.ext ∷ []) steps _ refl

twice_behind : (xs ys : List Text) → has_twice (xs ++ ys) ≡ false → has_twice ys ≡ false
twice_behind [] ys e = e
twice_behind (x ∷ xs) ys e = twice_behind xs ys (or_parts (list_any (bytes_eq x) (xs ++ ys)) (has_twice (xs ++ ys)) e).1

twice_across : (xs ys : List Text) → has_twice (xs ++ ys) ≡ false → AllByRecursion (IsApart ys) xs
twice_across [] ys e = tt
twice_across (x ∷ xs) ys e =
    let two = or_parts (list_any (bytes_eq x) (xs ++ ys)) (has_twice (xs ++ ys)) e in
    ((or_parts (list_any (bytes_eq x) xs) (list_any (bytes_eq x) ys) (sym (list_any-append (bytes_eq x) xs ys) ∙ two.0)).1, twice_across xs ys two.1)

components_each : (P : Text → Type 0) (components : List Text) → AllByRecursion P (flat_map component_names components) → AllByRecursion P components
components_each P [] a = tt
components_each P (c ∷ components) a = (a.0, components_each P components a.1.1.1.1)

-- where no exact name stands twice, the outputs differ
pub outputs_once : (names : Names) → has_twice (exact_names names) ≡ false → has_twice names.outputs ≡ false
outputs_once names once =
    twice_behind (flat_map component_names names.components) names.outputs
    (twice_behind (own_final names) (flat_map component_names names.components ++ names.outputs) once)

-- and no component is an output
pub components_apart : (names : Names) → has_twice (exact_names names) ≡ false → AllByRecursion (IsApart names.outputs) names.components
components_apart names once =
    components_each (IsApart names.outputs) names.components
    (twice_across (flat_map component_names names.components) names.outputs
    (twice_behind (own_final names) (flat_map component_names names.components ++ names.outputs) once))
