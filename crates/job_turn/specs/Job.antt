-- What a turn asks of a job, and what its names are.
use Rattle.std.specs.Prelude.{◌≡◌, ℕ, ◌<◌, ◌≤◌, ◌^◌, Bool, true, false, ◌==◌, List, map, length, All, None, IsTrue, bytes_eq}
use Rattle.std.specs.List.{list_any}
use Rattle.folder_base.specs.Disk.{Name}
use Rattle.plan_record.specs.Plan.{are_lines}
use Rattle.tool_chain.specs.Chain.{InputsCome}
use Rattle.tool_chain.specs.Jobs.{Job as Command, job_of, is_output_of}
use Rattle.component_turn.specs.Plan.{lines_of}
use Rattle.job_pieces.specs.declared.component.Component.{Component}
use Rattle.job_plan.specs.declared.job.Job.{Job}
use Rattle.job_plan.specs.Laws.{IsWhole}
use Rattle.job_plan.specs.Views.{plain_job}
use Rattle.job_turn.specs.Clearing.{is_of_some, AreNamesApart}
use Rattle.job_turn.specs.declared.settings.Settings.{Settings}

-- the children that make its file
abbrev pub steps_of : Job → List Command
steps_of job = map job_of job.steps.items

-- the commands that are run for its file
abbrev pub execs_of : Job → List Command
execs_of job = map job_of job.execs.items

-- Its only component is its file: no step makes it.
abbrev pub is_alone : Job → Bool
is_alone job = length job.steps.items == 0

-- The component has pieces, and a record can be written of them.
pub record HasPieces (component : Component) : Type 0 where
  pub some : 0 < length component.pieces.items
  pub few : length component.pieces.items < 2 ^ 63
  pub plain : are_lines (lines_of component.pieces.items) ≡ true

-- the names of its components
abbrev pub names_of : Job → List Name
names_of job = map (λ component. component.name) job.components.items

-- No name of a job stands for two files: not for two components' families, nor for an output and a component's family, nor for the final name and another, where steps
-- make its file.
pub record IsApart (job : Job) : Type 0 where
  pub components : AreNamesApart (names_of job)
  pub outputs : (name : Name) → is_output_of (steps_of job) name ≡ true → is_of_some (names_of job) name ≡ false
  pub final_is_none : is_alone job ≡ false → is_of_some (names_of job) job.final_name ≡ false
  pub final_is_no_output : is_output_of (steps_of job) job.final_name ≡ false

-- Of a job that can be done: its steps leave the file that gets the final name and read its components and each other's outputs alone, none of its names stands for two
-- files, each component has pieces, and the commands that are run for the file make none.
pub record IsReady (job : Job) : Type 0 where
  pub whole : IsWhole (plain_job job)
  pub apart : IsApart job
  pub pieces : All HasPieces job.components.items
  pub come : InputsCome (λ name. IsTrue (list_any (bytes_eq name) (names_of job))) (steps_of job)
  pub silent : All (λ exec. exec.output ≡ None) (execs_of job)

-- The workers that are asked for are there, and no piece is tried too often.
pub record AreSettings (settings : Settings) (dialers : ℕ) : Type 0 where
  pub some : 0 < settings.workers
  pub few : settings.workers ≤ 32
  pub there : settings.workers ≤ dialers
  pub retries : settings.retries ≤ 1000
  pub fragment_retries : settings.fragment_retries ≤ 1000
