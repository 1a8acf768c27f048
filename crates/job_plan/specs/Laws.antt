-- What is so of every list of jobs.
use Rattle.std.specs.Prelude.{◌≡◌, ◌⊎◌, ◌≢◌, ℕ, true, false, List, [], ◌∷◌, map, filter_map, slice_get, All, Option, Some, None, is_some, Ok, IfOk, IsTrue, bytes_eq}
use Rattle.std.specs.List.{last_or, list_any}
use Rattle.std.specs.Option.{option_map_or}
use Rattle.tool_chain.specs.Chain.{InputsCome}
use Rattle.tool_chain.specs.Jobs.{Job as Command, OutputsApart}
use Rattle.job_names.specs.Text.{Text}
use Rattle.job_plan.specs.Plan.{Job, Entry}
use Rattle.job_pieces.specs.Kept.{AreKept}
use Rattle.job_names.specs.Family.{Names, Meet, meets_itself}

-- the names of the components of a job
abbrev pub names_of_components : Job → List Text
names_of_components job = map (λ component. component.name) job.components

-- the names of a job
abbrev pub names_of : Job → Names
names_of job = record {
  final_name = job.final_name;
  components = names_of_components job;
  outputs = filter_map (λ step. step.output) job.steps;
}

-- Two entries at different places that are jobs share no name.
abbrev pub FamiliesApart : List (Entry Job) → Type 0
FamiliesApart entries =
    (i j : ℕ) (first second : Entry Job) (a b : Job) → (i ≢ j) → slice_get entries i ≡ Some first → slice_get entries j ≡ Some second
    → first.outcome ≡ Ok a → second.outcome ≡ Ok b → Meet (names_of a) (names_of b) → ⊥

-- the output of the last of these children
abbrev pub last_output : List Command → Option Text
last_output steps = option_map_or (λ step. step.output) (last_or None steps) None

-- The final name is the only component, or what the last output is published as.
abbrev pub IsMade : Job → Type 0
IsMade job =
    ((job.steps ≡ []) × (names_of_components job ≡ job.final_name ∷ []))
    ⊎ (is_some (last_output job.steps) ≡ true)

-- Of a job: none of its names stands for two files, its children can run one after another from what is fetched, the last leaves the file that
-- gets the final name, there is something to fetch for each component, and the commands for the finished file leave none.
pub record IsWhole (job : Job) : Type 0 where
  pub alone : meets_itself (names_of job) ≡ false
  pub apart : OutputsApart job.steps
  pub come : InputsCome (λ name. IsTrue (list_any (bytes_eq name) (names_of_components job))) job.steps
  pub made : IsMade job
  pub fetched : All (λ component. component.pieces ≢ []) job.components
  pub silent : All (λ command. command.output ≡ None) job.execs

-- Each entry that is a job is whole.
abbrev pub AreWhole : List (Entry Job) → Type 0
AreWhole entries = (i : ℕ) (entry : Entry Job) (job : Job) → slice_get entries i ≡ Some entry → entry.outcome ≡ Ok job → IsWhole job

-- The URLs of an entry that is a job are kept so.
abbrev pub EntryKept : Entry Job → Type 0
EntryKept entry = IfOk entry.outcome (λ job. All AreKept job.components)

-- The URLs of every job are kept so.
abbrev pub AllKept : List (Entry Job) → Type 0
AllKept entries = All EntryKept entries
