-- What a lane is as it is opened, and what is left where none was.
use Rattle.std.specs.Prelude.{◌≡◌, ◌⊎◌, ℕ, Option, None, is_some, IsTrue}
use Rattle.folder_base.specs.Disk.{Name, Bytes, IsSettled}
use Rattle.folder_base.specs.Story.{World, Story, Through}
use Rattle.folder_base.specs.declared.store_fault.StoreFault.{StoreFault}
use Rattle.folder_base.specs.declared.store_fault.StoreFault.TheVariants.{OutOfMemory}
use Rattle.keep_store.specs.Promise.{IsNameOf, IsPromise, PieceSound}
use Rattle.keep_store.specs.Publish.{Stays}
use Rattle.keep_store.specs.Safe.{reads, Kept}
use Rattle.keep_store.specs.Lane.{Seen, Has, Since, IsRefusal, SameOthers}

-- At each moment of the call what was promised of the piece is kept, and a piece that agreed with the world's bytes of its URL agrees.
pub record KeepsPiece (stem : Name) (old new : Story) : Type 0 where
  pub promise : Through old new (λ image. (bytes : Bytes) → IsPromise stem (reads old.now) bytes → Kept stem old.now bytes (is_some (old.now.live stem)) image)
  pub sound : Through old new (λ image. (all : Option Bytes) → PieceSound all stem (reads old.now) → PieceSound all stem image)

-- the same where nothing was pending
abbrev pub KeepsPromise : Name → Story → Story → Type 0
KeepsPromise stem old new = IsSettled old.now → KeepsPiece stem old new

-- The lane goes on from the promised bytes, and is complete where its complete name stood; other files are as they were.
pub record Resumes (old : Story) (lane : Seen) : Type 0 where
  pub bytes : Bytes
  pub promise : IsPromise lane.stem (reads old.now) bytes
  pub complete : lane.complete ≡ is_some (old.now.live lane.stem)
  pub has : Has lane bytes
  pub others : (name : Name) → (IsNameOf lane.stem name → ⊥) → lane.world.story.now.live name ≡ old.now.live name
  pub moments : KeepsPromise lane.stem old lane.world.story
  pub since : IsSettled old.now → Since lane.complete lane old.now bytes

-- A lane of this piece was opened: it holds no fault, and all its bytes are promised.
pub record Opens (old : World) (number : ℕ) (stem : Name) (lane : Seen) : Type 0 where
  pub piece : lane.number ≡ number
  pub named : lane.stem ≡ stem
  pub ready : lane.fault ≡ None
  pub promised : lane.promised ≡ lane.size
  pub folder : Stays old lane.world
  pub told : IsTrue lane.world.tells → Resumes old.story lane

-- No lane was opened: for a call of the folder that was refused, or for want of memory, for which no count has to rise here. Files
-- that are not the piece's are as they were.
pub record NotOpened (stem : Name) (old new : World) (fault : StoreFault) : Type 0 where
  pub folder : Stays old new
  pub others : IsTrue new.tells → SameOthers stem old new
  pub cause : (fault ≡ OutOfMemory) ⊎ IsRefusal old new fault
  pub moments : IsTrue new.tells → KeepsPromise stem old.story new.story
