-- Why a line was not added, and what the archive has then.
use Rattle.std.proofs.Common.{◌≡◌, ◌⊎◌, inl, inr, Bool, true, false, refl, sym, ◌∙◌, ap, IsTrue}
use Rattle.std.specs.Prelude.{◌||◌, bytes_eq, cond, Result, Ok, Err, OnErr}
use Rattle.std.proofs.lemmas.Slice.Eq.{bytes_eq-Decides}
use Rattle.text_base.specs.declared.faults.FolderCall.{FolderCall}
use Rattle.folder_base.specs.Disk.{Name, Bytes}
use Rattle.folder_base.specs.Story.{World}
use Rattle.folder_base.specs.declared.store_fault.StoreFault.{StoreFault}
use Rattle.folder_base.specs.declared.store_fault.StoreFault.TheVariants.{Folder, OutOfMemory}
use Rattle.keep_store.specs.Lane.{IsRefusal}
use Rattle.folder_steps.specs.Blames.{BlamesMemory}
use Rattle.archive_store.specs.Adding.{bytes_at}
use Rattle.archive_store.specs.Causes.{of_store, NoneFailed, IsBytesFault, IsReadFault, IsAddFault}
use Rattle.archive_store.specs.Lines.{bad_line}
use Rattle.archive_store.specs.declared.archive_fault.ArchiveFault.{ArchiveFault}
use Rattle.archive_store.specs.declared.archive_fault.ArchiveFault.TheVariants as archive

-- the fault of the folder that a refusal names
refusal_of : {old new : World} {call : FolderCall} → (Folder call ≡ OutOfMemory) ⊎ IsRefusal old new (Folder call) → IsRefusal old new (Folder call)
refusal_of (inl none) = absurd (cc)
refusal_of (inr is) = is

-- A refusal of the store, as the archive tells it: of the adding of a line,
pub add_refused : {T : Type 0} (old new : World) (fault : StoreFault) → BlamesMemory {T = T} old new (Err fault) → IsAddFault old new (of_store fault)
add_refused old new (Folder call) is = refusal_of is.cause
add_refused old new OutOfMemory is = is.calm

-- and of a reading;
pub read_refused : {T : Type 0} (name : Name) (old new : World) (fault : StoreFault) → BlamesMemory {T = T} old new (Err fault) → IsReadFault name old new (of_store fault)
read_refused name old new (Folder call) is = refusal_of is.cause
read_refused name old new OutOfMemory is = is.calm

-- and what the bytes are refused for that were read.
pub bytes_refused : (name : Name) (old new : World) (bytes : Bytes) (fault : ArchiveFault) → NoneFailed old new → (IsTrue new.tells → bytes ≡ bytes_at old.story.now name) → IsBytesFault bytes fault → IsReadFault name old new fault
bytes_refused name old new bytes (archive.Folder call) calm read is = absurd is
bytes_refused name old new bytes (archive.BadText line) calm read is = (calm, λ t. ap bad_line (sym (read t)) ∙ is)
bytes_refused name old new bytes archive.OutOfMemory calm read is = calm

-- A line that was put among others is taken out again.
pub taken_back : (line other : Bytes) (was : Bytes → Bool) (mid now : Bool) → was line ≡ false → mid ≡ (bytes_eq line other || was other) → now ≡ cond (bytes_eq line other) false mid → now ≡ was other
taken_back line other was mid now none put taken = by (bytes_eq line other) refl put taken
  where
    by : (b : Bool) → bytes_eq line other ≡ b → mid ≡ (b || was other) → now ≡ cond b false mid → now ≡ was other
    by true same p t = t ∙ sym none ∙ ap was ((bytes_eq-Decides line other).0 same)
    by false differs p t = t ∙ p

pub on_err : {T E X : Type 0} (result : Result T E) → X → OnErr result X
on_err (Ok x) h = tt
on_err (Err e) h = h
