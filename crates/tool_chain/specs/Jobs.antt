-- What a child tool is asked for: its words, the files that it reads and the file that it makes.
use Rattle.std.specs.Prelude.{◌≡◌, Bool, false, ◌||◌, List, [], ◌∷◌, Option, Some, is_some, ⊤, All, IfSome, IsSome, bytes_eq}
use Rattle.std.specs.Option.{option_map_or}
use Rattle.folder_base.specs.Disk.{Name, Bytes, Disk}
use Rattle.keep_store.specs.Safe.{reads}
use Rattle.tool_chain.specs.declared.job.ToolJob.{ToolJob}

-- the job of a child: the program, its arguments, the names that it reads, and the one that it makes
pub record Job : Type 0 where
  pub program : Name
  pub args : List Name
  pub inputs : List Name
  pub output : Option Name

-- a job as contracts see it
abbrev pub job_of : ToolJob → Job
job_of job = record { program = job.program; args = job.args.items; inputs = job.inputs.items; output = job.output }

-- The name is the job's output.
abbrev pub is_output : Job → Name → Bool
is_output job name = option_map_or (λ output. bytes_eq output name) job.output false

-- The name is the output of one of the jobs.
abbrev pub is_output_of : List Job → Name → Bool
is_output_of [] name = false
is_output_of (job ∷ jobs) name = is_output job name || is_output_of jobs name

-- The outputs differ, and none is an input of its own job or of an earlier one.
abbrev pub OutputsApart : List Job → Type 0
OutputsApart [] = ⊤
OutputsApart (job ∷ jobs) =
    All (λ input. is_output_of (job ∷ jobs) input ≡ false) job.inputs
    × (IfSome job.output (λ output. is_output_of jobs output ≡ false) × OutputsApart jobs)

-- The job's output stands.
abbrev pub leaves : Job → Disk → Bool
leaves job disk = option_map_or (λ output. is_some (disk.live output)) job.output false

-- The job's output, where it has one, stands with these bytes.
abbrev pub OutputIs : Bytes → Job → Disk → Type 0
OutputIs bytes job disk = (output : Name) → job.output ≡ Some output → reads disk output ≡ Some bytes

-- The job can be done: its inputs stand, and its output does not.
pub record CanRun (job : Job) (disk : Disk) : Type 0 where
  pub inputs : All (λ input. IsSome (disk.live input)) job.inputs
  pub free : leaves job disk ≡ false
