-- What a chain of child tools did, and why it ended.
use Rattle.std.specs.Prelude.{◌≡◌, ◌≢◌, ◌⊎◌, ℕ, ◌+◌, true, false, IsTrue, List, [], ◌∷◌, ◌++◌, length, map, take, Some, None, IsSome, ⊤, All, Result, Ok, Err, OnOk}
use Rattle.folder_base.specs.Disk.{Name, Disk}
use Rattle.folder_base.specs.Story.{World}
use Rattle.folder_base.specs.declared.store_fault.StoreFault.{StoreFault}
use Rattle.folder_base.specs.declared.store_fault.StoreFault.TheVariants.{Folder as StoreFolder, OutOfMemory as StoreMemory}
use Rattle.keep_store.specs.Lane.{IsRefusal}
use Rattle.keep_store.specs.Safe.{reads}
use Rattle.tool_chain.specs.Jobs.{Job, is_output_of, OutputIs}
use Rattle.tool_chain.specs.Runs.{Run, Making, Bench, Starts, Spares}
use Rattle.tool_chain.specs.declared.fault.ToolCause.{ToolCause}
use Rattle.tool_chain.specs.declared.fault.ToolCause.TheVariants.{Start, Status, NoOutput}
use Rattle.tool_chain.specs.declared.fault.ToolFault.{ToolFault}
use Rattle.tool_chain.specs.declared.fault.ToolFault.TheVariants.{Tool, Folder, OutOfMemory}

-- the fault of a chain for a refusal of its folder
abbrev pub tool_fault : StoreFault → ToolFault
tool_fault (StoreFolder call) = Folder call
tool_fault StoreMemory = OutOfMemory

-- A run that went well: status 0, and its output was left, where it has one.
pub record IsGood (run : Run) : Type 0 where
  pub status : run.status ≡ Some 0
  pub left : IsSome run.job.output → run.left ≡ true

-- What the last run shows of the cause of a fault.
abbrev pub IsCause : ToolCause → Run → Type 0
IsCause Start run = run.status ≡ None
IsCause (Status code) run = (run.status ≡ Some code) × (code ≢ 0)
IsCause NoOutput run = (run.status ≡ Some 0) × (IsSome run.job.output × (run.left ≡ false))

-- The run of the fault's step shows its cause, and those before it went well.
pub record EndsBy (step : ℕ) (cause : ToolCause) (added : List Run) : Type 0 where
  pub good : List Run
  pub last : Run
  pub added_is : added ≡ good ++ last ∷ []
  pub number : length good ≡ step
  pub each_good : All IsGood good
  pub shows : IsCause cause last

-- What the added runs show of the answer. Steps are numbered from `at` on.
abbrev pub Shows : ℕ → List Job → List Run → Result (Unit {0}) ToolFault → Type 0
Shows at jobs added (Ok _) = (length added ≡ length jobs) × All IsGood added
Shows at jobs added (Err (Tool step cause)) = (k : ℕ) × ((step ≡ at + k) × EndsBy k cause added)
Shows at jobs added (Err (Folder call)) = All (λ run. run.status ≡ Some 0) added
Shows at jobs added (Err OutOfMemory) = All (λ run. run.status ≡ Some 0) added

-- The added runs are of the first jobs, in order, each once, and show the answer.
pub record Runs (at : ℕ) (jobs : List Job) (old new : List Run) (result : Result (Unit {0}) ToolFault) : Type 0 where
  pub added : List Run
  pub behind : new ≡ old ++ added
  pub first : map (λ run. run.job) added ≡ take (length added) jobs
  pub shows : Shows at jobs added result

-- A start failed.
abbrev pub IsStart : Result (Unit {0}) ToolFault → Type 0
IsStart (Ok _) = ⊥
IsStart (Err (Tool step Start)) = ⊤
IsStart (Err (Tool step (Status code))) = ⊥
IsStart (Err (Tool step NoOutput)) = ⊥
IsStart (Err (Folder call)) = ⊥
IsStart (Err OutOfMemory) = ⊥

-- A fault of the folder is of a call that failed in this call, and no steady folder that tells has one. After Ok, want of memory and an
-- output that is missing no call of the folder failed.
abbrev pub BlamesFolder : World → World → Result (Unit {0}) ToolFault → Type 0
BlamesFolder old new (Ok _) = new.faults ≡ old.faults
BlamesFolder old new (Err (Tool step Start)) = ⊤
BlamesFolder old new (Err (Tool step (Status code))) = ⊤
BlamesFolder old new (Err (Tool step NoOutput)) = new.faults ≡ old.faults
BlamesFolder old new (Err (Folder call)) = IsRefusal old new (StoreFolder call)
BlamesFolder old new (Err OutOfMemory) = new.faults ≡ old.faults

-- Each output stands with what its tool makes of its arguments and of its inputs as they stand.
abbrev pub AllMade : Making → List Job → Disk → Type 0
AllMade make jobs disk = All (λ job. OutputIs (make job.args (map (reads disk) job.inputs)) job disk) jobs

-- Each output stands.
abbrev pub AllStand : List Job → Disk → Type 0
AllStand jobs disk = All (λ job. (output : Name) → job.output ≡ Some output → IsSome (disk.live output)) jobs

-- Each input is there, or is the output of an earlier job.
abbrev pub InputsCome : (Name → Type 0) → List Job → Type 0
InputsCome there [] = ⊤
InputsCome there (job ∷ jobs) = All there job.inputs × InputsCome (λ name. there name ⊎ (job.output ≡ Some name)) jobs

-- These jobs were done in order, up to the first refusal; `at` is the first one's number.
pub record Chains (at : ℕ) (jobs : List Job) (bench bench' : Bench) (old new : World) (result : Result (Unit {0}) ToolFault) : Type 0 where
  pub starts : Starts (IsStart result) bench bench'
  pub spares : Spares (is_output_of jobs) old new
  pub runs : IsTrue bench'.tells → IsTrue new.tells → Runs at jobs bench.runs bench'.runs result
  pub stand : IsTrue new.tells → OnOk result (AllStand jobs new.story.now)
  pub made : IsTrue bench'.tells → IsTrue new.tells → OnOk result (AllMade bench.make jobs new.story.now)
  pub blames : BlamesFolder old new result
  pub works : IsTrue bench.works → IsTrue old.steady → IsTrue old.tells → InputsCome (λ name. IsSome (old.story.now.live name)) jobs
      → (result ≡ Ok tt) ⊎ (result ≡ Err OutOfMemory)
