-- What comes of a component by how its pieces ended.
use Rattle.std.specs.Prelude.{ℕ, ◌+◌, Bool, true, false, List, [], ◌∷◌, Option, Some, None, Result, Ok, Err}
use Rattle.std.specs.List.{list_any}
use Rattle.std.specs.Option.{option_or}
use Rattle.text_base.specs.declared.faults.FolderCall.{FolderCall}
use Rattle.folder_base.specs.declared.store_fault.StoreFault.{StoreFault}
use Rattle.folder_base.specs.declared.store_fault.StoreFault.TheVariants as store
use Rattle.http_reply.specs.declared.piece_fault.PieceFault.{PieceFault}
use Rattle.http_reply.specs.declared.piece_fault.PieceFault.TheVariants.{Folder, OutOfMemory}
use Rattle.piece_turn.specs.declared.piece_end.PieceEnd.{PieceEnd}
use Rattle.piece_turn.specs.declared.piece_end.PieceEnd.TheVariants.{Done, Failed, NotBegun}
use Rattle.component_turn.specs.declared.component_end.ComponentEnd.{ComponentEnd}
use Rattle.component_turn.specs.declared.component_end.ComponentEnd.TheVariants.{Whole, Failed as FailedAt}

-- the call of the folder that a cause names
abbrev pub call_in : PieceFault → Option FolderCall
call_in (Folder call) = Some call
call_in cause = None

-- the call of the folder that a piece failed for
abbrev pub call_of : PieceEnd → Option FolderCall
call_of (Failed tries cause) = call_in cause
call_of (Done tries) = None
call_of NotBegun = None

-- the call of the first piece that failed for one
abbrev pub first_call : List PieceEnd → Option FolderCall
first_call [] = None
first_call (end ∷ ends) = option_or (call_of end) (first_call ends)

-- whether a cause is want of memory
abbrev pub is_memory : PieceFault → Bool
is_memory OutOfMemory = true
is_memory cause = false

-- whether a piece failed for want of memory
abbrev pub lacks_memory : PieceEnd → Bool
lacks_memory (Failed tries cause) = is_memory cause
lacks_memory (Done tries) = false
lacks_memory NotBegun = false

-- whether one of these did
abbrev pub some_lacks : List PieceEnd → Bool
some_lacks ends = list_any lacks_memory ends

-- the first of the pieces from number k on that failed; or the component is whole
abbrev pub first_failed : ℕ → List PieceEnd → ComponentEnd
first_failed k [] = Whole
first_failed k (Failed tries cause ∷ ends) = FailedAt k tries cause
first_failed k (Done tries ∷ ends) = first_failed (k + 1) ends
first_failed k (NotBegun ∷ ends) = first_failed (k + 1) ends

-- The folder's call decides, else want of memory, else the first that failed.
abbrev pub decided : Option FolderCall → Bool → ComponentEnd → Result ComponentEnd StoreFault
decided (Some call) lacks end = Err (store.Folder call)
decided None true end = Err store.OutOfMemory
decided None false end = Ok end

-- what comes of a component whose pieces ended so
abbrev pub judged : List PieceEnd → Result ComponentEnd StoreFault
judged ends = decided (first_call ends) (some_lacks ends) (first_failed 0 ends)
