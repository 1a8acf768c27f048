-- The names of a job's family, and what spares all others.
use Rattle.std.specs.Prelude.{Bool, ◌||◌, IsTrue, List, bytes_eq}
use Rattle.folder_base.specs.Disk.{Name, Names, May}
use Rattle.folder_base.specs.Story.{World, Through}
use Rattle.folder_steps.specs.Follow.{Follows, Beside}
use Rattle.tool_chain.specs.Jobs.{Job as Command, is_output_of}
use Rattle.component_turn.specs.Crew.{Endures}
use Rattle.job_plan.specs.declared.job.Job.{Job}
use Rattle.job_turn.specs.Clearing.{is_of_some, is_tidied_of}
use Rattle.job_turn.specs.Job.{steps_of, names_of, is_alone}

-- The name is that of a job's file, an output of its steps, or of the family of one of its components.
abbrev pub is_of_family : Name → List Command → List Name → Name → Bool
is_of_family final steps components name = bytes_eq final name || (is_output_of steps name || is_of_some components name)

-- The name is of the job's family.
abbrev pub in_family : Job → Name → Bool
in_family job = is_of_family job.final_name (steps_of job) (names_of job)

-- what goes behind a job: the outputs of its steps, and of its components what tidying removes
abbrev pub goes_behind : Bool → Job → Names → Name → Bool
goes_behind keep job live name = is_output_of (steps_of job) name || is_tidied_of (is_alone job) keep live (names_of job) name

-- The folder endured what was done in it, and at no moment of that was a name touched beside these.
pub record Spared (loose : Name → Bool) (old new : World) : Type 0 where
  pub endures : Endures old new
  pub apart : IsTrue new.tells → Through old.story new.story (Follows (May old.story.now) (Beside loose))
