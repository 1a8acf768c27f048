-- What tools tell of the children that they ran, and what a child may change.
use Rattle.std.specs.Prelude.{◌≡◌, ◌⊎◌, ℕ, ◌≤◌, Bool, true, false, IsTrue, List, [], ◌∷◌, ◌++◌, map, Option, Some, None, IsSome, ⊤, Result, Ok, Err}
use Rattle.text_base.specs.Causes.{Rose}
use Rattle.text_base.specs.declared.faults.FolderFault.{FolderFault}
use Rattle.text_base.specs.declared.faults.FolderFault.TheVariants.{Failed, OutOfMemory}
use Rattle.folder_base.specs.Disk.{Name, Bytes, Disk, May}
use Rattle.folder_base.specs.Story.{World, Through}
use Rattle.folder_steps.specs.Follow.{Follows, Beside}
use Rattle.keep_store.specs.Publish.{Stays}
use Rattle.keep_store.specs.Safe.{reads}
use Rattle.tool_chain.specs.Jobs.{Job, leaves, OutputIs, CanRun}

-- One run of a child: its job, the bytes of each input as it began (none where it did not stand or was not read), its status
-- (none where it did not start), and whether its output stood as it ended.
pub record Run : Type 0 where
  pub job : Job
  pub inputs : List (Option Bytes)
  pub status : Option ℕ
  pub left : Bool

-- What a child makes of its arguments and its inputs' bytes.
abbrev pub Making : Type 0
Making = List Name → List (Option Bytes) → Bytes

-- What tools tell: that no start fails (`steady`), that a child which can do its job does it (`works`), how many starts failed, what
-- their children make, and their runs so far.
pub record Bench : Type 0 where
  pub tells : Bool
  pub steady : Bool
  pub works : Bool
  pub faults : ℕ
  pub make : Making
  pub runs : List Run

-- What no call takes away from tools.
pub record KeepsBench (old new : Bench) : Type 0 where
  pub tells : IsTrue new.tells → IsTrue old.tells
  pub still_tells : IsTrue old.tells → IsTrue new.tells
  pub steady : IsTrue old.steady → IsTrue new.steady
  pub works : IsTrue old.works → IsTrue new.works
  pub make : new.make ≡ old.make
  pub later : old.faults ≤ new.faults

-- Besides, the count of faults rises where a start failed, which steady tools never let, and stands still else.
pub record Starts (failed : Type 0) (old new : Bench) : Type 0 where
  pub keeps : KeepsBench old new
  pub rose : failed → Rose old.faults new.faults
  pub calm : (failed → ⊥) → new.faults ≡ old.faults
  pub never : IsTrue old.steady → failed → ⊥

-- The folder stays; only the files under these names may change, and a crash at any moment leaves of the others what it might have
-- left before.
pub record Spares (loose : Name → Bool) (old new : World) : Type 0 where
  pub stays : Stays old new
  pub others : IsTrue new.tells → (name : Name) → loose name ≡ false → new.story.now.live name ≡ old.story.now.live name
  pub moments : IsTrue new.tells → Through old.story new.story (Follows (May old.story.now) (Beside loose))

-- These bytes are what the name read as, or none.
abbrev pub IsRead : Disk → Name → Option Bytes → Type 0
IsRead disk name bytes = (bytes ≡ None) ⊎ (bytes ≡ reads disk name)

-- So it is of each of these names and bytes.
abbrev pub AreRead : List Name → Disk → List (Option Bytes) → Type 0
AreRead [] disk [] = ⊤
AreRead [] disk (bytes ∷ all) = ⊥
AreRead (name ∷ names) disk [] = ⊥
AreRead (name ∷ names) disk (bytes ∷ all) = IsRead disk name bytes × AreRead names disk all

-- The run is of this job. Where the folder tells it has the inputs as they stood, or none. After status 0, or where the folder is steady,
-- it has each of them, and says whether the output stands; an output that stands after status 0 is what the child makes.
pub record IsRunOf (make : Making) (job : Job) (old new : World) (run : Run) : Type 0 where
  pub job_is : run.job ≡ job
  pub read : IsTrue new.tells → AreRead job.inputs old.story.now run.inputs
  pub exact : IsTrue new.tells → (run.status ≡ Some 0) ⊎ IsTrue old.steady → run.inputs ≡ map (reads old.story.now) job.inputs
  pub left : IsTrue new.tells → (run.status ≡ Some 0) ⊎ IsTrue old.steady → run.left ≡ leaves job new.story.now
  pub made : IsTrue new.tells → run.status ≡ Some 0 → run.left ≡ true → OutputIs (make job.args run.inputs) job new.story.now

-- the status of the run that a call adds; none is added where memory was refused
abbrev pub status_of : Result ℕ FolderFault → Option (Option ℕ)
status_of (Ok status) = Some (Some status)
status_of (Err Failed) = Some None
status_of (Err OutOfMemory) = None

-- One run was added, of this status and with P; or none.
abbrev pub Adds : (Run → Type 0) → Option (Option ℕ) → List Run → List Run → Type 0
Adds P None old new = new ≡ old
Adds P (Some status) old new = (run : Run) × ((new ≡ old ++ run ∷ []) × ((run.status ≡ status) × P run))

-- Of tools that work, over a steady folder that tells, a job that can be done was done, or memory was refused.
abbrev pub Works : Job → Bench → World → World → Result ℕ FolderFault → Type 0
Works job bench old new result =
    IsTrue bench.works → IsTrue old.steady → IsTrue old.tells → CanRun job old.story.now
    → (result ≡ Err OutOfMemory) ⊎ ((result ≡ Ok 0) × ((output : Name) → job.output ≡ Some output → IsSome (new.story.now.live output)))

-- Neither status 0 nor want of memory hides a call of the folder that failed.
abbrev pub HidesNone : World → World → Result ℕ FolderFault → Type 0
HidesNone old new result = (result ≡ Ok 0) ⊎ (result ≡ Err OutOfMemory) → new.faults ≡ old.faults
