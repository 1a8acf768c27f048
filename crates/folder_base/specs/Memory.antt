-- What a folder in memory tells.
use Rattle.std.specs.Prelude.{◌≡◌, ℕ, ◌+◌, ◌-◌, ◌^◌, ◌≤◌, min, Bool, true, false, IsTrue, List, [], map, sum_by, None, Vec, Result, MatchResult, IsErrOf, Ok, Err}
use Rattle.std.specs.declared.alloc.Global.{Global}
use Rattle.text_base.specs.Causes.{Rose}
use Rattle.text_base.specs.declared.faults.FolderFault.{FolderFault}
use Rattle.text_base.specs.declared.faults.FolderFault.TheVariants.{Failed, OutOfMemory}
use Rattle.text_base.specs.declared.faults.OutOfMemory.{OutOfMemory as NoMemory}
use Rattle.folder_base.specs.Disk.{Name, Names}
use Rattle.folder_base.specs.Story.{Story, World, Fans}
use Rattle.folder_base.specs.Content.{content_tale}
use Rattle.folder_base.specs.Line.{line_tale}
use Rattle.folder_base.specs.Log.{lasting}
use Rattle.folder_base.specs.Plan.{plans_nothing, plans_call}
use Rattle.folder_base.specs.Tale.{Tale}
use Rattle.folder_base.specs.declared.line.Line.{Line}
use Rattle.folder_base.specs.declared.memory.FolderMem.{FolderMem}
use Rattle.folder_base.specs.declared.plan.Plan.{Plan}

-- a whole folder that tells this story
abbrev pub whole_world : Bool → ℕ → ℕ → Story → World
whole_world steady faults refusals story = record {
  tells = true;
  steady = steady;
  faults = faults;
  refusals = refusals;
  part = None;
  out = [];
  since = 0;
  story = story;
}

-- a folder with these files, nothing of which is pending, and without a past
abbrev pub fresh : Bool → Names → World
fresh steady live = whole_world steady 0 0 (record { now = lasting live; past = [] })

-- It plans no fault and no stop.
abbrev pub is_steady : FolderMem → Bool
is_steady folder = plans_nothing folder.content.line.log.value.plan

-- what a folder tells by its content and its counts
abbrev pub world_with : Bool → ℕ → ℕ → Tale → World
world_with steady faults refusals tale = record {
  tells = true;
  steady = steady;
  faults = faults;
  refusals = refusals;
  part = tale.part;
  out = tale.out;
  since = tale.since;
  story = tale.story;
}

-- what a folder in memory tells, and its counts
abbrev pub world_of : FolderMem → World
world_of folder = world_with (is_steady folder) folder.faults folder.refusals (content_tale folder.content)

-- a part with this line, as it is handed out
abbrev pub line_world : Line → World
line_world line = world_with (plans_nothing line.log.value.plan) 0 0 (line_tale line)

-- The folder once its parts are out; where memory was refused, as it was.
abbrev pub Hands : List Name → World → World → Result (Vec FolderMem Global) NoMemory → Type 0
Hands stems old new result =
    MatchResult result (λ parts. Fans stems old (map world_of parts.items) new × (new.steady ≡ old.steady) × (new.faults ≡ old.faults) × (new.refusals ≡ old.refusals)) (λ _. new ≡ old)

-- What a folder answers, and its counts: where a call did its step, could not be done, or wanted memory.
abbrev pub Answers : Result Bool NoMemory → Result (Unit {0}) FolderFault → ℕ → ℕ → ℕ → ℕ → Type 0
Answers (Ok true) result faults faults' refusals refusals' = (result ≡ Ok tt) × (faults' ≡ faults) × (refusals' ≡ refusals)
Answers (Ok false) result faults faults' refusals refusals' =
    (result ≡ Err Failed) × (faults ≤ faults') × Rose faults faults' × (refusals' ≡ refusals)
Answers (Err e) result faults faults' refusals refusals' =
    (result ≡ Err OutOfMemory) × (faults' ≡ faults) × (refusals ≤ refusals') × Rose refusals refusals'

-- The call failed, and not for want of memory.
abbrev pub FailedSo : {T : Type 0} → Result T FolderFault → Type 0
FailedSo result = IsErrOf result Failed

-- the number of its next call
abbrev pub number_of : FolderMem → ℕ
number_of folder = folder.calls

-- the number of its first call
abbrev pub first_of : FolderMem → ℕ
first_of folder = folder.first

-- which of its calls are to fail
abbrev pub plans : FolderMem → ℕ → Bool
plans folder = plans_call folder.content.line.log.value.plan.fails.items folder.content.line.log.value.plan.stop

-- One call was counted. Where that was planned it failed and did nothing, and else it fails by misuse alone.
pub record Counts (proper failed : Type 0) (old new : FolderMem) : Type 0 where
  pub number : number_of new ≡ min (number_of old + 1) (2 ^ 64 - 1)
  pub first : first_of new ≡ first_of old
  pub plan : plans new ≡ plans old
  pub fails : IsTrue (plans old (number_of old)) → failed
  pub did_nothing : IsTrue (plans old (number_of old)) → (world_of new).story ≡ (world_of old).story
  pub others : plans old (number_of old) ≡ false → proper → failed → ⊥

-- The part's calls go on from the folder's, by the same plan.
pub record GoesOn (folder part : FolderMem) : Type 0 where
  pub number : number_of part ≡ number_of folder
  pub first : first_of part ≡ number_of folder
  pub plan : plans part ≡ plans folder

-- how many calls it was asked
abbrev pub asked : FolderMem → ℕ
asked folder = number_of folder - first_of folder

-- no call was counted
pub record CountsNone (old new : FolderMem) : Type 0 where
  pub number : number_of new ≡ number_of old
  pub first : first_of new ≡ first_of old
  pub plan : plans new ≡ plans old

-- The parts' calls were counted behind the folder's, and then this one.
pub record CountsBack (parts : List FolderMem) (old new : FolderMem) : Type 0 where
  pub number : number_of new ≡ min (number_of old + sum_by asked parts + 1) (2 ^ 64 - 1)
  pub first : first_of new ≡ first_of old
  pub plan : plans new ≡ plans old

-- how a part is numbered, and its plan
pub record Numbers : Type 0 where
  pub number : ℕ
  pub first : ℕ
  pub plan : Plan

-- how a folder is numbered, and its plan
abbrev pub numbers_of : FolderMem → Numbers
numbers_of folder = record { number = folder.calls; first = folder.first; plan = folder.content.line.log.value.plan }

-- those of a part with this line, as it is handed out with this number
abbrev pub line_numbers : ℕ → Line → Numbers
line_numbers first line = record { number = first; first = first; plan = line.log.value.plan }
