-- What is known of a lane whose piece is fetched, in every image that a crash may leave.
use Rattle.std.specs.Prelude.{◌≡◌, ◌⊎◌, ◌≤◌, true, IsTrue, ◌++◌, length, Option, Some, None, IsSome}
use Rattle.folder_base.specs.Disk.{Name, Bytes, Disk, Image}
use Rattle.folder_base.specs.Story.{Through}
use Rattle.folder_base.specs.declared.store_fault.StoreFault.{StoreFault}
use Rattle.keep_store.specs.Promise.{IsPromise, AreFirst, PieceSound}
use Rattle.keep_store.specs.Publish.{Stays}
use Rattle.keep_store.specs.Safe.{reads}
use Rattle.keep_store.specs.Lane.{Seen, Has, Since, SameOthers, IsRefusal}

-- The lane is as it was opened: it holds no fault, and all that it has is promised.
pub record IsAsOpened (lane : Seen) : Type 0 where
  pub ready : lane.fault ≡ None
  pub promised : lane.promised ≡ lane.size

-- The lane was opened over `entry`, where its piece was sound; its bytes are the first of the world's, and all where it is complete.
pub record IsSoundLane (all : Option Bytes) (entry : Disk) (lane : Seen) : Type 0 where
  pub bytes : Bytes
  pub has : Has lane bytes
  pub since : Since lane.complete lane entry bytes
  pub first : AreFirst all bytes
  pub whole : lane.complete ≡ true → all ≡ Some bytes
  pub entered : PieceSound all lane.stem (reads entry)

-- what an image promises of the piece is no less than at `entry`
abbrev pub NoLess : Image → Name → Image → Type 0
NoLess entry stem image = (first promise : Bytes) → IsPromise stem entry first → IsPromise stem image promise → length first ≤ length promise

-- The lane is the same piece's, over the same folder; no other file was touched, no less is promised, and a fault that it came to
-- hold is a refusal of its folder.
pub record IsSamePiece (old new : Seen) : Type 0 where
  pub number : new.number ≡ old.number
  pub stem : new.stem ≡ old.stem
  pub folder : Stays old.world new.world
  pub others : IsTrue new.world.tells → SameOthers old.stem old.world new.world
  pub later : old.promised ≤ new.promised
  pub cause : (fault : StoreFault) → new.fault ≡ Some fault → (old.fault ≡ Some fault) ⊎ IsRefusal old.world new.world fault

-- Where the folder tells: what was there is there still, a complete piece stands, and at no moment is less promised.
pub record KeepsLane (old new : Seen) : Type 0 where
  pub has : (bytes : Bytes) → Has old bytes → (more : Bytes) × Has new (bytes ++ more)
  pub stands : (bytes : Bytes) → Has old bytes → new.complete ≡ true → IsSome (new.world.story.now.live new.stem)
  pub kept : (entry : Disk) (bytes : Bytes) → Since old.complete old entry bytes → Through old.world.story new.world.story (NoLess (reads entry) old.stem)

-- At each moment the piece was sound of these bytes, where it was so as the lane was opened.
abbrev pub StaysSound : Option Bytes → Seen → Seen → Type 0
StaysSound all old new = (entry : Disk) → IsSoundLane all entry old → Through old.world.story new.world.story (PieceSound all old.stem)
