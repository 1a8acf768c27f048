-- What is printed of entries, and what two sinks take of it.
use Rattle.std.specs.Prelude.{◌⊎◌, ℕ, ◌≤◌, List, [], ◌∷◌, ◌++◌, map, take, Bool, true, false, if◌then◌else◌, codes, Option, Result, Ok, Err as Fails}
use Rattle.std.specs.Io.KnownBytes.{Appends}
use Rattle.text_base.specs.Causes.{Rose}
use Rattle.job_plan.specs.Plan.{Job, Entry}
use Rattle.job_plan.specs.declared.fault.JobFault.{JobFault}
use Rattle.ytdl_core.specs.declared.report.End.{End}
use Rattle.ytdl_core.specs.declared.report.End.TheVariants.{Shown, Fault}
use Rattle.ytdl_core.specs.declared.report.JobEnd.{JobEnd}
use Rattle.ytdl_core.specs.declared.run_fault.Which.{Which}
use Rattle.ytdl_core.specs.declared.run_fault.Which.TheVariants.{Out, Err}
use Rattle.ytdl_core.specs.Outside.{AppendsFront}
use Rattle.ytdl_core.specs.Texts.{job_line}

-- bytes in the order in which they are written, each with the sink that it goes to
abbrev pub Script : Type 0
Script = List (Which × ℕ)

-- all these bytes to one sink
abbrev pub all_to : Which → List ℕ → Script
all_to which bytes = map (λ b. (which, b)) bytes

-- the sink is standard output
abbrev pub is_out : Which → Bool
is_out Out = true
is_out Err = false

-- the bytes for standard output
abbrev pub out_bytes : Script → List ℕ
out_bytes [] = []
out_bytes (p ∷ ps) = if is_out p.0 then p.1 ∷ out_bytes ps else out_bytes ps

-- the bytes for standard error
abbrev pub err_bytes : Script → List ℕ
err_bytes [] = []
err_bytes (p ∷ ps) = if is_out p.0 then err_bytes ps else p.1 ∷ err_bytes ps

-- both sinks took their bytes of the script, and nothing else
pub record Sends (script : Script) (out out_now err err_now : Option (List ℕ)) : Type 0 where
  pub to_out : Appends out out_now (out_bytes script)
  pub to_err : Appends err err_now (err_bytes script)

-- both sinks took their bytes of a front of the script, and nothing else
pub record SendsSome (script : Script) (out out_now err err_now : Option (List ℕ)) : Type 0 where
  pub count : ℕ
  pub front : Sends (take count script) out out_now err err_now

-- a text on a line of its own
abbrev pub own_line : List ℕ → List ℕ
own_line text = text ++ codes "\n"

-- texts, each on a line of its own
abbrev pub each_line : List (List ℕ) → List ℕ
each_line [] = []
each_line (text ∷ texts) = own_line text ++ each_line texts

-- what is printed of a job that is not downloaded: its texts, and then its final name where the run is not quiet
abbrev pub job_lines : Bool → Job → List ℕ
job_lines quiet job = each_line job.printed ++ (if quiet then [] else codes "[simulate] " ++ own_line job.final_name)

-- what is printed of what became of a choice, where it is a job
abbrev pub shown_lines : Bool → Result Job JobFault → List ℕ
shown_lines quiet (Ok job) = job_lines quiet job
shown_lines quiet (Fails fault) = []

-- what is said of an entry by its end: the lines of its job, or the line of a fault, which names its item
abbrev pub said_of : Bool → Entry Job → End → Script
said_of quiet entry Shown = all_to Out (shown_lines quiet entry.outcome)
said_of quiet entry (Fault fault) = all_to Err (job_line entry.item fault)

-- what is said of entries by their ends, in their order
abbrev pub said : Bool → List (Entry Job) → List JobEnd → Script
said quiet [] ends = []
said quiet (entry ∷ entries) [] = []
said quiet (entry ∷ entries) (end ∷ ends) = said_of quiet entry end.end ++ said quiet entries ends

-- A sink took a front of a line, and all of it unless it failed or was out of memory.
pub record TellsLine (line : List ℕ) (err err_now : Option (List ℕ)) (faults faults_now refusals refusals_now : ℕ) : Type 0 where
  pub front : AppendsFront err err_now line
  pub whole : Appends err err_now line ⊎ (Rose faults faults_now ⊎ Rose refusals refusals_now)
  pub later : faults ≤ faults_now
