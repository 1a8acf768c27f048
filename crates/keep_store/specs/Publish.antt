-- Why a call that works by a folder is refused, and what a crash leaves while a file is published.
use Rattle.std.specs.Prelude.{◌≡◌, ◌⊎◌, ℕ, ◌≤◌, IsTrue, Some, None, Result, Ok, Err, ⊤}
use Rattle.text_base.specs.Causes.{Rose}
use Rattle.text_base.specs.declared.faults.FolderFault.{FolderFault}
use Rattle.text_base.specs.declared.faults.FolderFault.TheVariants.{Failed, OutOfMemory}
use Rattle.folder_base.specs.Disk.{Name, Bytes, File, Disk, Image, May, content, put, created, appended, cut_to, synced, renamed, removed, settled}
use Rattle.folder_base.specs.Story.{World, Story, Through, Next}
use Rattle.text_base.specs.declared.faults.FolderCall.{FolderCall}
use Rattle.text_base.specs.declared.faults.FolderCall.TheVariants.{Create, Append, Cut, Sync, Rename, Remove, Settle}
use Rattle.folder_base.specs.declared.store_fault.StoreFault.{StoreFault}
use Rattle.folder_base.specs.declared.store_fault.StoreFault.TheVariants.{Folder, OutOfMemory as NoMemory}

-- the fault of a lane for a fault of its folder in this call
abbrev pub store_fault : FolderCall → FolderFault → StoreFault
store_fault call Failed = Folder call
store_fault call OutOfMemory = NoMemory

-- what every call here leaves of the folder
pub record Stays (old new : World) : Type 0 where
  pub tells : IsTrue new.tells → IsTrue old.tells
  pub still_tells : IsTrue old.tells → IsTrue new.tells
  pub steady : IsTrue old.steady → IsTrue new.steady
  pub faults : old.faults ≤ new.faults
  pub refusals : old.refusals ≤ new.refusals
  pub part : new.part ≡ old.part
  pub out : new.out ≡ old.out

-- The step is one that this call makes. The calls that read make none.
abbrev pub IsStepOf : FolderCall → (Disk → Disk) → Type 0
IsStepOf Create step = (name : Name) × (step ≡ created name)
IsStepOf Append step = (name : Name) × (bytes : Bytes) × (step ≡ appended name bytes)
IsStepOf Cut step = (name : Name) × (len : ℕ) × (step ≡ cut_to name len)
IsStepOf Sync step = (name : Name) × (step ≡ synced name)
IsStepOf Rename step = (from : Name) × (to : Name) × (step ≡ renamed from to)
IsStepOf Remove step = (name : Name) × (step ≡ removed name)
IsStepOf Settle step = step ≡ settled
IsStepOf call step = ⊥

-- Nothing was done, or a step of this call.
abbrev pub DidAtMost : FolderCall → Story → Story → Type 0
DidAtMost call old new = (new ≡ old) ⊎ ((step : Disk → Disk) × IsStepOf call step × Next step old new)

-- This call failed: the count of faults rose, and it did nothing, or its own step.
pub record Fails (call : FolderCall) (old new : World) : Type 0 where
  pub rose : Rose old.faults new.faults
  pub told : IsTrue new.tells → DidAtMost call old.story new.story

-- Between these two moments this call failed.
pub record FailedBetween (call : FolderCall) (old new : World) : Type 0 where
  pub before : World
  pub after : World
  pub earlier : Stays old before
  pub fails : Fails call before after
  pub later : Stays after new

-- A fault of the folder names a call that failed, and want of memory comes only where the count of refusals rose.
abbrev pub MayRefuse : World → World → StoreFault → Type 0
MayRefuse old new (Folder call) = FailedBetween call old new
MayRefuse old new NoMemory = Rose old.refusals new.refusals

-- The count of faults stands still, unless the answer is a fault of the folder.
abbrev pub IsCalm : {T : Type 0} → World → World → Result T StoreFault → Type 0
IsCalm old new (Ok _) = new.faults ≡ old.faults
IsCalm old new (Err (Folder call)) = ⊤
IsCalm old new (Err NoMemory) = new.faults ≡ old.faults

-- an image of before, but with the whole file under its new name alone
pub record IsPublished (from to : Name) (disk : Disk) (image : Image) : Type 0 where
  pub file : File
  pub stood : disk.live from ≡ Some file
  pub before : Image
  pub possible : May disk before
  pub moved : (name : Name) → image name ≡ put (put before from None) to (Some (content file)) name

-- as before the call, or with the file published, none of its bytes missing
abbrev pub IsBeforeOrMoved : Name → Name → Disk → Image → Type 0
IsBeforeOrMoved from to disk image = May disk image ⊎ IsPublished from to disk image

-- A file was synced and then renamed, or the call ended before that.
pub record IsMoving (from to : Name) (old new : Story) : Type 0 where
  pub moments : Through old new (λ image. May old.now image ⊎ May (renamed from to (synced from old.now)) image)
  pub ends : (new.now ≡ old.now) ⊎ ((new.now ≡ synced from old.now) ⊎ (new.now ≡ renamed from to (synced from old.now)))
