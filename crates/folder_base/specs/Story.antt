-- What a folder has been at each moment, and what it tells.
use Rattle.std.specs.Prelude.{◌≡◌, ◌⊎◌, ℕ, ◌-◌, ◌<◌, ◌≤◌, Bool, true, not, ◌&&◌, IsTrue, List, [], ◌∷◌, ◌++◌, length, take, drop, map, Option, Some, None, Result, IsErrOf, IsErr, IsSome, OnOk, ⊤, All}
use Rattle.std.specs.Option.{option_map_or}
use Rattle.text_base.specs.Causes.{Rose}
use Rattle.text_base.specs.declared.faults.FolderFault.{FolderFault}
use Rattle.text_base.specs.declared.faults.FolderFault.TheVariants.{Failed, OutOfMemory}
use Rattle.folder_base.specs.Disk.{Name, Disk, Image, May}
use Rattle.folder_base.specs.Parts.{is_part, is_in_some, inside, outside, together, Agree}

-- A moment that is past. `apart` is a time with parts out: the states of the rest and of each part, any of which may meet.
pub data Moment : Type 0 where
  whole : Disk → Moment
  apart : List Disk → List (Name × List Disk) → Moment

-- the folder now, and its past moments, the last one first
pub record Story : Type 0 where
  pub now : Disk
  pub past : List Moment

-- A crash at one of these moments may leave it.
abbrev pub MayAny : List Disk → Image → Type 0
MayAny [] image = ⊥
MayAny (disk ∷ disks) image = May disk image ⊎ MayAny disks image

-- At these names the image is one that was possible at one of these moments.
pub record Shows (mine : Name → Bool) (disks : List Disk) (image : Image) : Type 0 where
  pub one : Image
  pub possible : MayAny disks one
  pub agrees : Agree mine image one

-- At each part's names the image is one that was possible at one of the part's moments.
abbrev pub ShowsEach : List (Name × List Disk) → Image → Type 0
ShowsEach [] image = ⊤
ShowsEach (part ∷ parts) image = Shows (is_part part.0) part.1 image × ShowsEach parts image

-- A crash at this moment may leave the image.
abbrev pub MayAt : Moment → Image → Type 0
MayAt (whole disk) image = May disk image
MayAt (apart rest parts) image =
    Shows (λ name. not (is_in_some (map (λ part. part.0) parts) name)) rest image × ShowsEach parts image

-- A crash at one of these moments may leave the image.
abbrev pub MayEver : List Moment → Image → Type 0
MayEver [] image = ⊥
MayEver (moment ∷ past) image = MayAt moment image ⊎ MayEver past image

-- how many moments are past
abbrev pub clock : Story → ℕ
clock story = length story.past

-- A crash at some moment since then might have left this image.
abbrev pub MaySince : ℕ → Story → Image → Type 0
MaySince t story image = May story.now image ⊎ MayEver (take (length story.past - t) story.past) image

-- This step was made, and nothing else.
pub record Next (step : Disk → Disk) (old new : Story) : Type 0 where
  pub now : new.now ≡ step old.now
  pub past : new.past ≡ whole old.now ∷ old.past

-- Each moment from old to new leaves images with P alone.
pub record Through (old new : Story) (P : Image → Type 0) : Type 0 where
  pub more : List Moment
  pub past : new.past ≡ more ++ old.past
  pub each : (image : Image) → MayEver (whole new.now ∷ more) image → P image

-- which part of a folder it is: its stem, and what it was as it was handed out
pub record Part : Type 0 where
  pub stem : Name
  pub birth : Disk

-- What a folder tells, and its counts. `out` are its parts that are out, and `since` is the clock as they were handed out.
pub record World : Type 0 where
  pub tells : Bool
  pub steady : Bool
  pub faults : ℕ
  pub refusals : ℕ
  pub part : Option Part
  pub out : List Part
  pub since : ℕ
  pub story : Story

-- the stems of parts
abbrev pub stems : List Part → List Name
stems parts = map (λ part. part.stem) parts

-- The name is the folder's to answer for: a part's name in a part, and none of the names of parts that are out.
abbrev pub is_own : World → Name → Bool
is_own world name = option_map_or (λ part. is_part part.stem name) world.part true && not (is_in_some (stems world.out) name)

-- It is no part, and has no part out.
pub record IsWhole (world : World) : Type 0 where
  pub no_part : world.part ≡ None
  pub none_out : world.out ≡ []

-- The name stands in the folder now.
abbrev pub stands : World → Name → Type 0
stands world name = IsSome (world.story.now.live name)

-- What every call keeps, and when it may fail, which takes misuse where the folder is steady. Its count of faults stands still
-- unless it failed.
pub record Asks {T : Type 0} (proper : Type 0) (old new : World) (result : Result T FolderFault) : Type 0 where
  pub tells : IsTrue new.tells → IsTrue old.tells
  pub still_tells : IsTrue old.tells → IsTrue new.tells
  pub steady : IsTrue old.steady → IsTrue new.steady
  pub faults : old.faults ≤ new.faults
  pub refusals : new.refusals ≡ old.refusals
  pub failed : IsErrOf result Failed → Rose old.faults new.faults
  pub calm : (IsErrOf result Failed → ⊥) → new.faults ≡ old.faults
  pub never : IsTrue old.steady → proper → IsErrOf result Failed → ⊥

-- The same of a call that counts its refusals for want of memory, and leaves parts as they are. That count stands still unless it
-- was refused so.
pub record Causes {T : Type 0} (proper : Type 0) (old new : World) (result : Result T FolderFault) : Type 0 where
  pub tells : IsTrue new.tells → IsTrue old.tells
  pub still_tells : IsTrue old.tells → IsTrue new.tells
  pub steady : IsTrue old.steady → IsTrue new.steady
  pub faults : old.faults ≤ new.faults
  pub refusals : old.refusals ≤ new.refusals
  pub failed : IsErrOf result Failed → Rose old.faults new.faults
  pub calm : (IsErrOf result Failed → ⊥) → new.faults ≡ old.faults
  pub refused : IsErrOf result OutOfMemory → Rose old.refusals new.refusals
  pub fed : (IsErrOf result OutOfMemory → ⊥) → new.refusals ≡ old.refusals
  pub never : IsTrue old.steady → proper → IsErrOf result Failed → ⊥
  pub part : new.part ≡ old.part
  pub out : new.out ≡ old.out
  pub since : new.since ≡ old.since

-- Nothing but counts has changed.
pub record Same (old new : World) : Type 0 where
  pub part : new.part ≡ old.part
  pub out : new.out ≡ old.out
  pub since : new.since ≡ old.since
  pub story : IsTrue new.tells → new.story ≡ old.story

-- The same of a call that reads, and takes no memory.
pub record Reads {T E : Type 0} (proper : Type 0) (old new : World) (result : Result T E) : Type 0 where
  pub tells : IsTrue new.tells → IsTrue old.tells
  pub still_tells : IsTrue old.tells → IsTrue new.tells
  pub steady : IsTrue old.steady → IsTrue new.steady
  pub faults : old.faults ≤ new.faults
  pub refusals : new.refusals ≡ old.refusals
  pub failed : IsErr result → Rose old.faults new.faults
  pub calm : (IsErr result → ⊥) → new.faults ≡ old.faults
  pub never : IsTrue old.steady → proper → IsErr result → ⊥
  pub same : Same old new

-- what a call does that is done whole or not at all
pub record Does {T : Type 0} (proper : Type 0) (step : Disk → Disk) (old new : Story) (result : Result T FolderFault) : Type 0 where
  pub was_proper : OnOk result proper
  pub done : OnOk result (Next step old new)
  pub failed : IsErrOf result Failed → (new ≡ old) ⊎ (proper × Next step old new)
  pub refused : IsErrOf result OutOfMemory → new ≡ old

-- some of a step was done
pub record DoneInPart (step : ℕ → Disk → Disk) (whole : ℕ) (old new : Story) : Type 0 where
  pub count : ℕ
  pub within : count ≤ whole
  pub next : Next (step count) old new

-- and what one does that may be done in part
pub record DoesSome {T : Type 0} (proper : Type 0) (step : ℕ → Disk → Disk) (whole : ℕ) (old new : Story) (result : Result T FolderFault) : Type 0 where
  pub was_proper : OnOk result proper
  pub done : OnOk result (Next (step whole) old new)
  pub failed : IsErrOf result Failed → (new ≡ old) ⊎ (proper × DoneInPart step whole old new)
  pub refused : IsErrOf result OutOfMemory → new ≡ old

-- a part as it is handed out
abbrev pub handed_part : World → Name → Part
handed_part world stem = record { stem = stem; birth = inside stem world.story.now }

-- the part with this stem as it is handed out: what it tells, and its counts at 0
abbrev pub part_of : World → Name → World
part_of world stem = record {
  tells = world.tells;
  steady = world.steady;
  faults = 0;
  refusals = 0;
  part = Some (handed_part world stem);
  out = [];
  since = 0;
  story = record { now = inside stem world.story.now; past = [] };
}

-- A part begins without faults, steady where its folder is.
pub record Begins (old part : World) : Type 0 where
  pub tells : part.tells ≡ old.tells
  pub steady : part.steady ≡ old.steady
  pub faults : part.faults ≡ 0
  pub refusals : part.refusals ≡ 0

-- one part for each stem, whatever the folder tells
pub record AreBegun (stems : List Name) (old : World) (parts : List World) : Type 0 where
  pub one_each : length parts ≡ length stems
  pub each : All (Begins old) parts

-- the folder once its parts are out
pub record Fans (stems : List Name) (old : World) (parts : List World) (new : World) : Type 0 where
  pub now : new.story.now ≡ outside stems old.story.now
  pub past : new.story.past ≡ whole old.story.now ∷ old.story.past
  pub part : new.part ≡ old.part
  pub out : new.out ≡ map (handed_part old) stems
  pub since : new.since ≡ length new.story.past
  pub handed : parts ≡ map (part_of old) stems

-- the disks of those moments at which no part was out
abbrev pub disks_of : List Moment → List Disk
disks_of [] = []
disks_of (whole disk ∷ past) = disk ∷ disks_of past
disks_of (apart rest parts ∷ past) = disks_of past

-- the stem of a part, and no bytes for a whole folder
abbrev pub stem_of : World → Name
stem_of world = option_map_or (λ part. part.stem) world.part []

-- the moments since then, and those before
abbrev pub recent : ℕ → Story → List Moment
recent since story = take (length story.past - since) story.past

-- the moments before then
abbrev pub ancient : ℕ → Story → List Moment
ancient since story = drop (length story.past - since) story.past

-- the time with the parts out, any moments of which may meet
abbrev pub time_apart : ℕ → List (Name × Story) → Story → Moment
time_apart since parts story =
    apart (story.now ∷ disks_of (recent since story)) (map (λ part. (part.0, part.1.now ∷ disks_of part.1.past)) parts)

-- A folder's story once its parts are back: as many moments as before and one more, each since the parts were out being all of
-- that time. Where there are none it goes on as it was.
abbrev pub gathered : ℕ → List (Name × Story) → Story → Story
gathered since [] story = story
gathered since (part ∷ parts) story = record {
  now = together story.now (map (λ each. (each.0, each.1.now)) (part ∷ parts));
  past = time_apart since (part ∷ parts) story ∷ map (λ _. time_apart since (part ∷ parts) story) (recent since story) ++ ancient since story;
}

-- the story of each part, with its stem
abbrev pub stories : List World → List (Name × Story)
stories parts = map (λ part. (stem_of part, part.story)) parts

-- The folder's story is the one with these parts back, and no part is out.
pub record Gathers (parts : List World) (old new : World) : Type 0 where
  pub story : new.story ≡ gathered old.since (stories parts) old.story
  pub part : new.part ≡ old.part
  pub out : new.out ≡ []
  pub since : new.since ≡ old.since

-- A count is above 0 in some part.
abbrev pub SomeRose : (World → ℕ) → List World → Type 0
SomeRose count [] = ⊥
SomeRose count (part ∷ parts) = (0 < count part) ⊎ SomeRose count parts

-- A count of the folder never falls, and rises exactly where that of some part is above 0.
pub record RosesWith (count : World → ℕ) (parts : List World) (old new : World) : Type 0 where
  pub later : count old ≤ count new
  pub rose : SomeRose count parts → Rose (count old) (count new)
  pub stood : All (λ part. count part ≡ 0) parts → count new ≡ count old

-- what gathering keeps, whatever the folder tells
pub record Collects (parts : List World) (old new : World) : Type 0 where
  pub tells : IsTrue new.tells → IsTrue old.tells
  pub still_tells : IsTrue old.tells → IsTrue new.tells
  pub steady : IsTrue old.steady → IsTrue new.steady
  pub faults : RosesWith (λ world. world.faults) parts old new
  pub refusals : RosesWith (λ world. world.refusals) parts old new
