-- How a job's file is made, call by call.
use Rattle.std.specs.Prelude.{◌≡◌, Bool, true, false, ◌||◌, ◌==◌, List, map, length, All, None, Result, MatchResult, Err}
use Rattle.folder_base.specs.Disk.{Name}
use Rattle.folder_base.specs.Story.{World}
use Rattle.folder_base.specs.declared.store_fault.StoreFault.{StoreFault}
use Rattle.folder_steps.specs.Blames.{BlamesMemory}
use Rattle.tool_chain.specs.Jobs.{Job as Command, job_of, is_output_of, OutputsApart}
use Rattle.tool_chain.specs.Runs.{Bench}
use Rattle.job_turn.specs.Clearing.{Clears, is_tidied_of, is_of_some, AreNamesApart}
use Rattle.job_turn.specs.Ends.{answer_at, cleared_answer}
use Rattle.job_turn.specs.Steps.{Finishes, Runs}
use Rattle.job_turn.specs.declared.end.FaultAt.{FaultAt}
use Rattle.job_turn.specs.declared.end.Stop.{Stop}
use Rattle.job_turn.specs.declared.end.TurnFault.{TurnFault}
use Rattle.job_turn.specs.declared.frame.Frame.{Frame}

-- the children that make a job's file
abbrev pub steps_in : Frame → List Command
steps_in frame = map job_of frame.steps.items

-- the commands that are run for its file
abbrev pub execs_in : Frame → List Command
execs_in frame = map job_of frame.execs.items

-- Its only component is its file: no step makes it.
abbrev pub is_alone : Frame → Bool
is_alone frame = length frame.steps.items == 0

-- Its names are each for one file, its steps can run one after another, and its commands make no file.
pub record IsFit (frame : Frame) : Type 0 where
  pub components : AreNamesApart frame.components.items
  pub outputs : (name : Name) → is_output_of (steps_in frame) name ≡ true → is_of_some frame.components.items name ≡ false
  pub apart : OutputsApart (steps_in frame)
  pub silent : All (λ exec. exec.output ≡ None) (execs_in frame)

-- what goes behind a job: the outputs of its steps, and of its components what tidying removes
abbrev pub goes_behind : Frame → World → Name → Bool
goes_behind frame world name = is_output_of (steps_in frame) name || is_tidied_of (is_alone frame) frame.keep world.story.now.live frame.components.items name

-- The answer is that of the folder under a name. A fault of the folder is of a call of it that failed, and no other answer hides one.
pub record Answers (old new : World) (result : Result (Unit {0}) TurnFault) : Type 0 where
  pub place : FaultAt
  pub done : Result (Unit {0}) StoreFault
  pub told : result ≡ answer_at place done
  pub blames : BlamesMemory old new done

-- What was needed was removed.
pub record Cleared (frame : Frame) (old new : World) (result : Result (Unit {0}) TurnFault) : Type 0 where
  pub clears : Clears (goes_behind frame old) old new result
  pub answers : Answers old new result

-- The commands were run, and where all went well what was needed was removed.
pub record Closes (frame : Frame) (bench bench' : Bench) (old new : World) (result : Result (Unit {0}) Stop) : Type 0 where
  pub mid : World
  pub ran : Result (Unit {0}) Stop
  pub runs : Runs (length frame.steps.items) (execs_in frame) bench bench' old mid ran
  pub behind : MatchResult ran (λ _. (cleared : Result (Unit {0}) TurnFault) × Cleared frame mid new cleared × (result ≡ cleared_answer cleared)) (λ stop. (result ≡ Err stop) × (new ≡ mid))

-- The file was made, and where all went well the rest was done.
pub record Completes (frame : Frame) (bench bench' : Bench) (old new : World) (result : Result (Unit {0}) Stop) : Type 0 where
  pub mid : World
  pub bench_mid : Bench
  pub made : Result (Unit {0}) Stop
  pub finishes : Finishes (steps_in frame) frame.final_name bench bench_mid old mid made
  pub behind : MatchResult made (λ _. Closes frame bench_mid bench' mid new result) (λ stop. (result ≡ Err stop) × (new ≡ mid) × (bench' ≡ bench_mid))
