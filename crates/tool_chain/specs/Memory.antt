-- What tools in memory tell, by what they keep.
use Rattle.std.specs.Prelude.{◌≡◌, ◌⊎◌, ℕ, Bool, true, false, not, IsTrue, IsSome, List, [], ◌∷◌, ◌++◌, map, Option, Some, None, is_none, option_map, unwrap_or, slice_get, Vec, Result, Ok, Err}
use Rattle.std.specs.List.{list_any}
use Rattle.std.specs.declared.alloc.Global.{Global}
use Rattle.text_base.specs.declared.faults.FolderFault.{FolderFault}
use Rattle.text_base.specs.declared.faults.FolderFault.TheVariants.{Failed, OutOfMemory}
use Rattle.folder_base.specs.Disk.{Name, Bytes, Disk}
use Rattle.folder_base.specs.Story.{World}
use Rattle.tool_chain.specs.Jobs.{Job, job_of, leaves, OutputIs, CanRun}
use Rattle.tool_chain.specs.Runs.{Run, Making, Bench}
use Rattle.tool_chain.specs.declared.act.ChildEnd.{ChildEnd}
use Rattle.tool_chain.specs.declared.child.Inputs.{Inputs}
use Rattle.tool_chain.specs.declared.memory.ToolsMem.{ToolsMem}
use Rattle.tool_chain.specs.declared.run.ToolRun.{ToolRun}
use Rattle.tool_chain.specs.declared.turn.ToolTurn.{ToolTurn}
use Rattle.tool_chain.specs.declared.turn.ToolTurn.TheVariants.{Good, Status, NoOutput, StartFails}

-- the bytes of the inputs, one after another; an input without bytes adds none
abbrev pub joined : List (Option Bytes) → Bytes
joined [] = []
joined (None ∷ inputs) = joined inputs
joined (Some bytes ∷ inputs) = bytes ++ joined inputs

-- what children in memory make: their inputs, joined
abbrev pub joins : Making
joins args inputs = joined inputs

-- the bytes of an input that is kept
abbrev pub bytes_of : Option (Vec ℕ Global) → Option Bytes
bytes_of kept = option_map (λ bytes. bytes.items) kept

-- a run as contracts see it
abbrev pub run_of : ToolRun → Run
run_of run = record { job = job_of run.job; inputs = map bytes_of run.inputs.items; status = run.status; left = run.left }

-- The child does not start.
abbrev pub fails_start : ToolTurn → Bool
fails_start Good = false
fails_start (Status code) = false
fails_start NoOutput = false
fails_start StartFails = true

-- The child is to fail in some way.
abbrev pub is_bad : ToolTurn → Bool
is_bad Good = false
is_bad (Status code) = true
is_bad NoOutput = true
is_bad StartFails = true

-- the status that a child ends with which has started and can do its job
abbrev pub code_of : ToolTurn → ℕ
code_of Good = 0
code_of (Status code) = code
code_of NoOutput = 0
code_of StartFails = 0

-- the status of a child that can do its job; none where it does not start
abbrev pub planned : ToolTurn → Option ℕ
planned Good = Some 0
planned (Status code) = Some code
planned NoOutput = Some 0
planned StartFails = None

-- the turn of the run with this number: those behind the script are good
abbrev pub turn_at : List ToolTurn → ℕ → ToolTurn
turn_at script number = unwrap_or (slice_get script number) Good

-- what tools tell by a script, so many faults and these runs: they tell, and go on telling
abbrev pub told_by : List ToolTurn → ℕ → List Run → Bench
told_by script faults runs = record {
  tells = true;
  steady = not (list_any fails_start script);
  works = not (list_any is_bad script);
  faults = faults;
  make = joins;
  runs = runs;
}

-- what tools in memory tell
abbrev pub bench_of : ToolsMem → Bench
bench_of tools = told_by tools.script.items tools.faults.count (map run_of tools.runs.items)

-- what they tell before the first run
abbrev pub begun : List ToolTurn → Bench
begun script = told_by script 0 []

-- the turns of their runs
abbrev pub script_of : ToolsMem → List ToolTurn
script_of tools = tools.script.items

-- A child ended as planned; the output of a good one stands.
pub record EndsBy (turn : ToolTurn) (job : Job) (disk : Disk) (status : Option ℕ) : Type 0 where
  pub as_planned : status ≡ planned turn
  pub stands : turn ≡ Good → (output : Name) → job.output ≡ Some output → IsSome (disk.live output)

-- the status of a child one of whose calls of the folder failed; none where it does not start
abbrev pub failed : ToolTurn → Option ℕ
failed Good = Some 1
failed (Status code) = Some 1
failed NoOutput = Some 1
failed StartFails = None

-- the answer that tells a status
abbrev pub answer_of : Option ℕ → Result ℕ FolderFault
answer_of None = Err Failed
answer_of (Some status) = Ok status

-- A child that read its inputs went through its job by its turn, and no call of the folder failed.
pub record HasEnded (turn : ToolTurn) (job : Job) (inputs : Inputs) (old new : World) (end : ChildEnd) : Type 0 where
  pub are_read : inputs.are_read ≡ true
  pub calm : new.faults ≡ old.faults
  pub starts : is_none end.status ≡ fails_start turn
  pub left : IsTrue new.tells → end.left ≡ leaves job new.story.now
  pub made : IsTrue new.tells → end.status ≡ Some 0 → leaves job new.story.now ≡ true → OutputIs (joined (map bytes_of inputs.all.items)) job new.story.now
  pub ends : IsTrue new.tells → leaves job old.story.now ≡ false → EndsBy turn job new.story.now end.status

-- The answer to a call by its turn: a start fails just where that is planned; a child that starts ends with status 1 where a call of the
-- folder failed; and over a steady folder that tells a job that can be done ends as planned, want of memory aside.
pub record Answers (turn : ToolTurn) (job : Job) (old new : World) (result : Result ℕ FolderFault) : Type 0 where
  pub fails : fails_start turn ≡ true → (result ≡ Err Failed) ⊎ (result ≡ Err OutOfMemory)
  pub starts : fails_start turn ≡ false → result ≡ Err Failed → ⊥
  pub failed_is : fails_start turn ≡ false → (new.faults ≡ old.faults) ⊎ (result ≡ Ok 1)
  pub ends : IsTrue old.steady → IsTrue old.tells → CanRun job old.story.now → (result ≡ answer_of (planned turn)) ⊎ (result ≡ Err OutOfMemory)
