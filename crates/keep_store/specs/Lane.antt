-- A lane: a piece's file, which is given bytes, and whose name promises some of them.
use Rattle.std.specs.Prelude.{◌≡◌, ◌⊎◌, ℕ, ◌-◌, ◌^◌, ◌≤◌, List, Bool, true, false, IsTrue, [], ◌++◌, length, Option, Some, None, IsSome, MatchOption, bytes_eq, if◌then◌else◌}
use Rattle.std.specs.Option.{option_map_or}
use Rattle.folder_base.specs.Disk.{Name, Bytes, File, Disk, Image, content, May}
use Rattle.folder_base.specs.Story.{World, Through}
use Rattle.folder_base.specs.declared.store_fault.StoreFault.{StoreFault}
use Rattle.folder_base.specs.declared.store_fault.StoreFault.TheVariants.{OutOfMemory}
use Rattle.keep_store.specs.Promise.{IsNumber, number_of, IsNameOf, promising, promise_name}
use Rattle.keep_store.specs.Publish.{Stays, MayRefuse}
use Rattle.keep_store.specs.Safe.{Safe, Kept}

-- a lane as its users see it: its folder, its piece, how many bytes it has and has promised, and the fault that it answers from now on
pub record Seen : Type 0 where
  pub world : World
  pub number : ℕ
  pub stem : Name
  pub size : ℕ
  pub promised : ℕ
  pub complete : Bool
  pub fault : Option StoreFault

-- The folder has no part out, and is whole or the stem's part.
pub record IsLaneFolder (stem : Name) (world : World) : Type 0 where
  pub none_out : world.out ≡ []
  pub part : option_map_or (λ part. bytes_eq part.stem stem) world.part true ≡ true

-- the name of the file of a lane that holds no fault
abbrev pub current_name : Seen → Name
current_name lane = if lane.complete then lane.stem else promise_name lane.stem lane.promised

-- how many bytes a lane may still be given
abbrev pub spare_of : Seen → ℕ
spare_of lane = if lane.complete then 0 else 2 ^ 64 - 1 - lane.size

-- The piece's file has this name and these bytes, and no other of its names stands.
pub record Lies (stem name : Name) (bytes : Bytes) (disk : Disk) : Type 0 where
  pub file : File
  pub stands : disk.live name ≡ Some file
  pub reads_as : content file ≡ bytes
  pub named : IsNameOf stem name
  pub only : (other : Name) → IsNameOf stem other → bytes_eq name other ≡ false → disk.live other ≡ None

-- The name promises at least the first `count` bytes, and a file of so many bytes has all that it promises.
pub record PromisesPart (stem name : Name) (size count : ℕ) : Type 0 where
  pub digits : List ℕ
  pub number : IsNumber digits
  pub is : name ≡ promising stem digits
  pub least : count ≤ number_of digits
  pub most : number_of digits ≤ size

-- the same of each of the piece's names: its complete name promises all
abbrev pub PromisesAtLeast : Name → Name → ℕ → ℕ → Type 0
PromisesAtLeast stem name size count = ((name ≡ stem) × (count ≤ size)) ⊎ PromisesPart stem name size count

-- The lane's file has these bytes, and promises as many as the lane does, or more; where the lane holds no fault it has as many
-- bytes as the lane, under its current name.
pub record Has (lane : Seen) (bytes : Bytes) : Type 0 where
  pub name : Name
  pub lies : Lies lane.stem name bytes lane.world.story.now
  pub promises : PromisesAtLeast lane.stem name (length bytes) lane.promised
  pub current : lane.fault ≡ None → (name ≡ current_name lane) × (length bytes ≡ lane.size)

-- The lane has these bytes since it was opened over `entry`, where nothing was pending; `whole` says that they may be all.
pub record Since (whole : Bool) (lane : Seen) (entry : Disk) (bytes : Bytes) : Type 0 where
  pub name : Name
  pub lies : Lies lane.stem name bytes lane.world.story.now
  pub safe : Safe lane.stem name entry bytes whole lane.world.story.now
  pub kept : (image : Image) → May lane.world.story.now image → Kept lane.stem entry bytes whole image

-- What was kept at each moment of a call, and is so from then on
pub record Keeps (whole : Bool) (old new : Seen) (entry : Disk) (bytes : Bytes) : Type 0 where
  pub moments : Through old.world.story new.world.story (Kept old.stem entry bytes whole)
  pub since : Since whole new entry bytes

-- A fault is of a call of the folder that was refused, and of a steady folder that tells it is want of memory alone.
pub record IsRefusal (old new : World) (fault : StoreFault) : Type 0 where
  pub rose : MayRefuse old new fault
  pub steady : IsTrue old.steady → IsTrue old.tells → fault ≡ OutOfMemory

-- No name but the piece's was touched.
abbrev pub SameOthers : Name → World → World → Type 0
SameOthers stem old new = (name : Name) → (IsNameOf stem name → ⊥) → new.story.now.live name ≡ old.story.now.live name

-- From the one lane to the other, puts and checkpoints alone were made, and they put these bytes behind its file's end. What is
-- promised does not get less.
pub record Took (old : Seen) (bytes : Bytes) (new : Seen) : Type 0 where
  pub number : new.number ≡ old.number
  pub stem : new.stem ≡ old.stem
  pub complete : new.complete ≡ old.complete
  pub folder : Stays old.world new.world
  pub held : IsSome old.fault → (new ≡ old) × (bytes ≡ [])
  pub full : old.complete ≡ true → bytes ≡ []
  pub later : old.promised ≤ new.promised
  pub others : IsTrue new.world.tells → SameOthers old.stem old.world new.world
  pub cause : (fault : StoreFault) → new.fault ≡ Some fault → (old.fault ≡ Some fault) ⊎ IsRefusal old.world new.world fault
  pub has : IsTrue new.world.tells → (before : Bytes) → Has old before → Has new (before ++ bytes)
  pub keeps : IsTrue new.world.tells → (entry : Disk) (before : Bytes) → Since old.complete old entry before → Keeps old.complete old new entry (before ++ bytes)

-- The piece was finished, or refused to be. What is promised does not get less.
pub record Finishes (old new : Seen) : Type 0 where
  pub number : new.number ≡ old.number
  pub stem : new.stem ≡ old.stem
  pub folder : Stays old.world new.world
  pub held : IsSome old.fault → new ≡ old
  pub later : old.promised ≤ new.promised
  pub others : IsTrue new.world.tells → SameOthers old.stem old.world new.world
  pub cause : (fault : StoreFault) → new.fault ≡ Some fault → (old.fault ≡ Some fault) ⊎ IsRefusal old.world new.world fault
  pub has : IsTrue new.world.tells → (bytes : Bytes) → Has old bytes → Has new bytes
  pub moments : IsTrue new.world.tells → (entry : Disk) (bytes : Bytes) → Since old.complete old entry bytes → Through old.world.story new.world.story (Kept old.stem entry bytes true)
  pub since : IsTrue new.world.tells → new.complete ≡ true → (entry : Disk) (bytes : Bytes) → Since old.complete old entry bytes → Since true new entry bytes

-- the lane that holds a fault
abbrev pub holding : StoreFault → Seen → Seen
holding fault lane = record lane { fault = Some fault }

-- A put may be refused with the fault that the lane holds; of a steady folder that tells it is else want of memory alone.
abbrev pub MayAnswer : Seen → StoreFault → Type 0
MayAnswer lane fault = MatchOption lane.fault (IsTrue lane.world.steady → IsTrue lane.world.tells → fault ≡ OutOfMemory) (λ held. fault ≡ held)
