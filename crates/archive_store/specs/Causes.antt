-- Why a call of the archive is refused.
use Rattle.std.specs.Prelude.{◌≡◌, IsTrue, Some, Result, MatchResult}
use Rattle.folder_base.specs.Disk.{Name, Bytes}
use Rattle.folder_base.specs.Story.{World}
use Rattle.folder_base.specs.declared.store_fault.StoreFault.{StoreFault}
use Rattle.folder_base.specs.declared.store_fault.StoreFault.TheVariants.{Folder as Refused, OutOfMemory as NoMemory}
use Rattle.keep_store.specs.Lane.{IsRefusal}
use Rattle.archive_store.specs.Adding.{bytes_at}
use Rattle.archive_store.specs.Lines.{bad_line}
use Rattle.archive_store.specs.declared.archive_fault.ArchiveFault.{ArchiveFault}
use Rattle.archive_store.specs.declared.archive_fault.ArchiveFault.TheVariants.{Folder, BadText, OutOfMemory}

-- a fault of the store, as the archive tells it
abbrev pub of_store : StoreFault → ArchiveFault
of_store (Refused call) = Folder call
of_store NoMemory = OutOfMemory

-- These bytes are refused for their first line that is not UTF-8, or for want of memory.
abbrev pub IsBytesFault : Bytes → ArchiveFault → Type 0
IsBytesFault bytes (Folder call) = ⊥
IsBytesFault bytes (BadText line) = bad_line bytes ≡ Some line
IsBytesFault bytes OutOfMemory = Unit {0}

-- No call of the folder failed.
abbrev pub NoneFailed : World → World → Type 0
NoneFailed old new = new.faults ≡ old.faults

-- A reading is refused for a call of the folder that failed; or none did, and it is for the file's first line that is not UTF-8, or for
-- want of memory.
abbrev pub IsReadFault : Name → World → World → ArchiveFault → Type 0
IsReadFault name old new (Folder call) = IsRefusal old new (Refused call)
IsReadFault name old new (BadText line) = NoneFailed old new × (IsTrue new.tells → bad_line (bytes_at old.story.now name) ≡ Some line)
IsReadFault name old new OutOfMemory = NoneFailed old new

-- A line is not added for a call of the folder that failed; or none did, and it is for want of memory.
abbrev pub IsAddFault : World → World → ArchiveFault → Type 0
IsAddFault old new (Folder call) = IsRefusal old new (Refused call)
IsAddFault old new (BadText line) = ⊥
IsAddFault old new OutOfMemory = NoneFailed old new

-- What the answer to a reading tells: after Ok no call of the folder failed.
abbrev pub BlamesRead : {T : Type 0} → Name → World → World → Result T ArchiveFault → Type 0
BlamesRead name old new result = MatchResult result (λ _. NoneFailed old new) (IsReadFault name old new)

-- The same of the answer to the adding of a line.
abbrev pub BlamesAdd : {T : Type 0} → World → World → Result T ArchiveFault → Type 0
BlamesAdd old new result = MatchResult result (λ _. NoneFailed old new) (IsAddFault old new)
