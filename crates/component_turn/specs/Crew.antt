-- What a crew did to a component's pieces, over the parts of a folder and over the folder.
use Rattle.std.specs.Prelude.{◌≡◌, ◌⊎◌, ℕ, ◌≤◌, Bool, IsTrue, IsSome, List, length, map, Some, Ok, Err}
use Rattle.std.specs.List.{slice_get}
use Rattle.text_base.specs.Causes.{Rose}
use Rattle.text_base.specs.declared.faults.FolderCall.{FolderCall}
use Rattle.folder_base.specs.Disk.{Name, Image, May, begins}
use Rattle.folder_base.specs.Story.{World, IsWhole, Through}
use Rattle.folder_base.specs.declared.store_fault.StoreFault.{StoreFault}
use Rattle.folder_base.specs.declared.store_fault.StoreFault.TheVariants.{Folder, OutOfMemory}
use Rattle.folder_steps.specs.Follow.{Always, Follows, Beside}
use Rattle.keep_store.specs.Safe.{reads}
use Rattle.http_reply.specs.declared.piece_fault.PieceFault.TheVariants.{Folder as ByFolder}
use Rattle.link_http.specs.Wire.{Wire}
use Rattle.link_http.specs.declared.piece.Piece.{Piece}
use Rattle.claim_crew.specs.Claimed.{joined_all}
use Rattle.piece_turn.specs.declared.piece_end.PieceEnd.{PieceEnd}
use Rattle.piece_turn.specs.declared.piece_end.PieceEnd.TheVariants.{Failed}
use Rattle.plan_record.specs.Names.{pieces_of, stem_of}
use Rattle.plan_record.specs.declared.line.Line.{Line}
use Rattle.component_store.specs.Assemble.{AllComplete}
use Rattle.component_store.specs.Component.{Web, Piece as WebPiece, pieces_from, HasRecord, ComponentSound}
use Rattle.component_turn.specs.declared.component.Component.{Component}
use Rattle.component_turn.specs.declared.component_end.ComponentEnd.TheVariants.{Whole}
use Rattle.component_turn.specs.Component.{name_of, count_of}
use Rattle.component_turn.specs.Plan.{lines_of, stems_from}
use Rattle.component_turn.specs.Judge.{judged}
use Rattle.component_turn.specs.Lanes.{AllCame, WasRefused, EachSettled, EachNoLess, IsFound, PromisesLeast}
use Rattle.component_turn.specs.Pieces.{AllTell, AreTold, AskedAll, AreDoneInReach}

-- What a call keeps that hands out parts: whether it tells, that it is steady, its counts, and that it is whole.
pub record Endures (old new : World) : Type 0 where
  pub tells : IsTrue new.tells → IsTrue old.tells
  pub still_tells : IsTrue old.tells → IsTrue new.tells
  pub steady : IsTrue old.steady → IsTrue new.steady
  pub faults : old.faults ≤ new.faults
  pub refusals : old.refusals ≤ new.refusals
  pub whole : IsTrue new.tells → IsWhole old → IsWhole new

-- A fault that names a call of the folder comes only where its count of faults rose, and of a steady folder that tells none does.
pub record MayFail (old new : World) (fault : StoreFault) : Type 0 where
  pub rose : (call : FolderCall) → fault ≡ Folder call → Rose old.faults new.faults
  pub steady : IsTrue old.steady → IsTrue old.tells → fault ≡ OutOfMemory

-- the record is the plan's, and the component is sound
abbrev pub IsPlanned : Web → Name → List Line → Image → Type 0
IsPlanned web component lines image = HasRecord component lines image × ComponentSound web component image

-- How the part of this number was found, where it tells.
abbrev pub FoundIn : List Name → List World → ℕ → Bool → ℕ → Type 0
FoundIn stems olds k complete promised = (stem : Name) (old : World) → slice_get stems k ≡ Some stem → slice_get olds k ≡ Some old → IsTrue old.tells → IsFound stem old.story.now complete promised

-- What is promised in the part of this number, where it tells.
abbrev pub PromisedIn : List Name → List World → ℕ → ℕ → Type 0
PromisedIn stems news k got = (stem : Name) (new : World) → slice_get stems k ≡ Some stem → slice_get news k ≡ Some new → IsTrue new.tells → PromisesLeast stem new.story.now got

-- The part of this number tells.
abbrev pub TellsIn : List World → ℕ → Type 0
TellsIn news k = (new : World) × (slice_get news k ≡ Some new) × IsTrue new.tells

-- Each part is steady and tells.
abbrev pub AllSteady : List World → Type 0
AllSteady olds = (k : ℕ) (old : World) → slice_get olds k ≡ Some old → IsTrue old.steady × IsTrue old.tells

-- Where a piece failed by its folder, that part counted a fault, and it was not steady.
abbrev pub AreCounted : List PieceEnd → List World → List World → Type 0
AreCounted ends olds news = (k n : ℕ) (call : FolderCall) (old new : World) → slice_get ends k ≡ Some (Failed n (ByFolder call)) → slice_get olds k ≡ Some old → slice_get news k ≡ Some new
    → Rose old.faults new.faults × (IsTrue old.steady → IsTrue old.tells → ⊥)

-- How a piece of a component was found in this folder, where it tells.
abbrev pub FoundAt : Name → World → ℕ → Bool → ℕ → Type 0
FoundAt component world k complete promised = IsTrue world.tells → IsFound (stem_of component k) world.story.now complete promised

-- What is promised of a component's piece in this folder, where it tells.
abbrev pub PromisedAt : Name → World → ℕ → ℕ → Type 0
PromisedAt component world k got = IsTrue world.tells → PromisesLeast (stem_of component k) world.story.now got

-- From before `fan` to after `gather`, with nothing pending in the parts: under the plan's record the component was sound at each moment.
abbrev pub CrewSound : Web → Component → World → World → Type 0
CrewSound web component old new =
    EachSettled (stems_from (name_of component) 0 (count_of component)) old.story.now → Always (IsPlanned web (name_of component) (lines_of component.pieces.items)) old.story.now
    → Through old.story new.story (IsPlanned web (name_of component) (lines_of component.pieces.items))

-- What is kept from before `fan` to after `gather`, whatever was replied: names beside the pieces', and each promise.
pub record CrewKeeps (component : Component) (old new : World) : Type 0 where
  pub apart : Through old.story new.story (Follows (May old.story.now) (Beside (begins (pieces_of (name_of component)))))
  pub kept : EachSettled (stems_from (name_of component) 0 (count_of component)) old.story.now → Always (EachNoLess (reads old.story.now) (stems_from (name_of component) 0 (count_of component))) old.story.now
      → Through old.story new.story (EachNoLess (reads old.story.now) (stems_from (name_of component) 0 (count_of component)))

-- No piece was begun, for this fault: want of memory, or a lane that was refused; the parts came back.
pub record FetchesNone (stems : List Name) (olds news : List World) (fault : StoreFault) : Type 0 where
  pub why : (fault ≡ OutOfMemory) ⊎ WasRefused fault stems olds news
  pub came : (planned : List WebPiece) → map (λ piece. piece.stem) planned ≡ stems → AllCame planned olds news

module _ {D : Type 0} (wire : D → Wire) where
  -- The pieces were fetched over the parts, which came back.
  pub record Fetches (stems : List Name) (pieces : List Piece) (retries : ℕ) (olds news : List World) (ends : List PieceEnd) (ds es : List D) : Type 0 where
    pub many : length ends ≡ length pieces
    pub turns : AskedAll wire (FoundIn stems olds) (PromisedIn stems news) (TellsIn news) pieces retries ends ds es
    pub came : (web : Web) (component : Name) → stems ≡ stems_from component 0 (length pieces) → AllTell wire es → AreTold web (lines_of pieces) (joined_all turns.asked)
        → AllCame (pieces_from web component 0 (lines_of pieces)) olds news
    pub stand : judged ends ≡ Ok Whole → (k : ℕ) (stem : Name) (new : World) → slice_get stems k ≡ Some stem → slice_get news k ≡ Some new → IsTrue new.tells → IsSome (new.story.now.live stem)
    pub counted : AreCounted ends olds news
    pub calm : AllSteady olds → AreDoneInReach wire (FoundIn stems olds) (PromisedIn stems news) (TellsIn news) pieces retries ends ds es turns.count

  -- The component's pieces were fetched.
  pub record Crews (component : Component) (retries : ℕ) (old new : World) (ends : List PieceEnd) (ds es : List D) : Type 0 where
    pub many : length ends ≡ count_of component
    pub turns : AskedAll wire (FoundAt (name_of component) old) (PromisedAt (name_of component) new) (λ k. IsTrue new.tells) component.pieces.items retries ends ds es
    pub sound : IsTrue new.tells → (web : Web) → AllTell wire es → AreTold web (lines_of component.pieces.items) (joined_all turns.asked) → CrewSound web component old new
    pub stand : IsTrue new.tells → judged ends ≡ Ok Whole → AllComplete (name_of component) (count_of component) new.story.now.live
    pub counted : (fault : StoreFault) → judged ends ≡ Err fault → MayFail old new fault
    pub calm : IsTrue old.steady → IsTrue old.tells
        → AreDoneInReach wire (FoundAt (name_of component) old) (PromisedAt (name_of component) new) (λ k. IsTrue new.tells) component.pieces.items retries ends ds es turns.count

-- None was begun, for this fault.
pub record CrewsNone (component : Component) (old new : World) (fault : StoreFault) : Type 0 where
  pub why : MayFail old new fault
  pub sound : IsTrue new.tells → (web : Web) → CrewSound web component old new
