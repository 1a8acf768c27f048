-- The report of a run, and the status of the program.
use Rattle.std.specs.Prelude.{◌≡◌, ℕ, List, map, Bool, true, false, if◌then◌else◌, Result, Ok, Err}
use Rattle.std.specs.List.{list_all}
use Rattle.job_plan.specs.Plan.{Job, Entry}
use Rattle.job_plan.specs.declared.fault.JobFault.{JobFault}
use Rattle.ytdl_core.specs.declared.report.End.{End}
use Rattle.ytdl_core.specs.declared.report.End.TheVariants.{Shown, Fault}
use Rattle.ytdl_core.specs.declared.report.JobEnd.{JobEnd}
use Rattle.ytdl_core.specs.declared.report.Report.{Report}
use Rattle.ytdl_core.specs.declared.run_fault.RunFault.{RunFault}
use Rattle.ytdl_core.specs.declared.run_fault.RunFault.TheVariants.{Options, Info, InfoRead, Write, OutOfMemory}

-- what becomes of a job that is not downloaded, or of the fault in its place
abbrev pub simulated : Result Job JobFault → End
simulated (Ok job) = Shown
simulated (Err fault) = Fault fault

-- the end of an entry that is not downloaded, with its item
abbrev pub simulated_end : Entry Job → JobEnd
simulated_end entry = record { item = entry.item; end = simulated entry.outcome }

-- The ends are those of entries of which nothing is downloaded: one for each, in their order.
abbrev pub Fits : List (Entry Job) → List JobEnd → Type 0
Fits entries ends = ends ≡ map simulated_end entries

-- whether a job was shown
abbrev pub is_shown_end : End → Bool
is_shown_end Shown = true
is_shown_end (Fault fault) = false

-- whether the job of this entry was shown
abbrev pub is_shown : JobEnd → Bool
is_shown job = is_shown_end job.end

-- the status of the program: 0 where every job was shown, 2 for its words, 70 for memory, 1 for all else
abbrev pub status_of : Result Report RunFault → ℕ
status_of (Ok report) = if list_all is_shown report.ends.items then 0 else 1
status_of (Err (Options word fault)) = 2
status_of (Err (Info fault)) = 1
status_of (Err InfoRead) = 1
status_of (Err (Write which)) = 1
status_of (Err OutOfMemory) = 70
