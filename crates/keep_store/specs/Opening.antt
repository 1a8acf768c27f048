-- How a lane's piece is found.
use Rattle.std.specs.Prelude.{◌≡◌, ◌⊎◌, ℕ, ◌<◌, ◌≤◌, Bool, false, IsTrue, List, ◌++◌, length, Contains, Option, Some, None, IsSome, IsNone, is_some, ⊤, MatchOption, bytes_eq, nat_le, slice_index_or, if◌then◌else◌}
use Rattle.std.specs.Cmp.Lexicographic.{slice_cmp}
use Rattle.std.specs.List.Sorted.{IsStrictlySortedBy}
use Rattle.std.specs.Ordering.{nat_cmp}
use Rattle.folder_base.specs.Disk.{Name, Bytes, File, Names, Disk, content, created, removed, cut_to, IsSettled}
use Rattle.folder_base.specs.Story.{World, Story, Through, Next, is_own}
use Rattle.keep_store.specs.Promise.{IsNumber, number_of, IsPromise, promise_name}
use Rattle.keep_store.specs.Publish.{Stays}
use Rattle.keep_store.specs.Safe.{reads, Safe, Kept}

-- The folder was only asked.
pub record Looked (old new : World) : Type 0 where
  pub stays : Stays old new
  pub same : IsTrue new.tells → new.story ≡ old.story

-- The folder answers for each name that begins so and promises bytes.
abbrev pub OwnsPromises : Name → World → Type 0
OwnsPromises prefix world = (digits : List ℕ) → IsNumber digits → IsTrue world.tells → IsTrue (is_own world (prefix ++ digits))

-- The name promises so many bytes, and its file has as many.
pub record StandsAt (prefix : Name) (live : Names) (name : Name) (len : ℕ) : Type 0 where
  pub digits : List ℕ
  pub number : IsNumber digits
  pub is : name ≡ prefix ++ digits
  pub spells : number_of digits ≡ len
  pub file : File
  pub stands : live name ≡ Some file
  pub enough : len ≤ length (content file)

-- of a promised length and a file's size, the length where the file has as many bytes
abbrev pub standing_len : Option ℕ → Option ℕ → Option ℕ
standing_len None size = None
standing_len (Some len) None = None
standing_len (Some len) (Some size) = if nat_le len size then Some len else None

-- exactly the standing promise of this name
abbrev pub IsStanding : Name → Names → Name → Option ℕ → Type 0
IsStanding prefix live name found = (len : ℕ) → (StandsAt prefix live name len → found ≡ Some len) × (found ≡ Some len → StandsAt prefix live name len)

-- There is a number, and the length is at most that.
abbrev pub AtMost : ℕ → Option ℕ → Type 0
AtMost len most = MatchOption most ⊥ (λ n. len ≤ n)

-- the greatest promise that stands among the first `count` of these names
pub record IsGreatest (prefix : Name) (live : Names) (names : List Name) (count : ℕ) (most : Option ℕ) : Type 0 where
  pub each : (k : ℕ) (name : Name) (len : ℕ) → k < count → k < length names → slice_index_or names k name ≡ name → StandsAt prefix live name len → AtMost len most
  pub some : MatchOption most ⊤ (λ n. (name : Name) × StandsAt prefix live name n)

-- the greater of two promises, where there are any
abbrev pub larger : Option ℕ → Option ℕ → Option ℕ
larger None b = b
larger (Some a) None = Some a
larger (Some a) (Some b) = if nat_le a b then Some b else Some a

-- The name promises bytes, and is not the current one.
pub record IsOther (prefix current name : Name) : Type 0 where
  pub digits : List ℕ
  pub number : IsNumber digits
  pub is : name ≡ prefix ++ digits
  pub apart : bytes_eq name current ≡ false

-- Of these names the others that promise bytes were removed, up to the first `count`, and no other name was touched.
pub record Removes (prefix current : Name) (names : List Name) (count : ℕ) (old new : Disk) : Type 0 where
  pub gone : (k : ℕ) (name : Name) → k < count → k < length names → slice_index_or names k name ≡ name → IsOther prefix current name → new.live name ≡ None
  pub only : (name : Name) → (new.live name ≡ old.live name) ⊎ ((new.live name ≡ None) × IsOther prefix current name)

-- Names other than those are as they were.
abbrev pub KeepsOthers : Name → Name → Disk → Disk → Type 0
KeepsOthers prefix current old new = (name : Name) → (IsOther prefix current name → ⊥) → new.live name ≡ old.live name

-- What a crash may leave was kept at each moment.
abbrev pub Secures : Name → Story → Story → Type 0
Secures current old new =
    (stem : Name) (entry : Disk) (bytes : Bytes) (complete : Bool) → Safe stem current entry bytes complete old.now
    → Through old new (Kept stem entry bytes complete) × Safe stem current entry bytes complete new.now

-- The name was removed, or nothing was done.
abbrev pub MayRemove : Name → Name → Name → Story → Story → Type 0
MayRemove prefix current name old new = (new ≡ old) ⊎ (IsOther prefix current name × Next (removed name) old new)

-- Each of these names stands, and they are in strict order.
pub record AllStand (live : Names) (names : List Name) : Type 0 where
  pub each : (name : Name) → Contains names name → IsSome (live name)
  pub ordered : IsStrictlySortedBy (slice_cmp nat_cmp) names

-- A file that is to be cut to its promise stands; one that is to be new does not.
abbrev pub CanBegin : Name → Option ℕ → Names → Type 0
CanBegin name promise live = MatchOption promise (IsNone (live name)) (λ len. IsSome (live name))

-- a piece's file as it is gone on with: cut to its promise, or else new and empty
abbrev pub begun_at : Name → Option ℕ → Disk → Disk
begun_at name None = created name
begun_at name (Some len) = cut_to name len

-- The file was begun, or nothing was done.
abbrev pub MayBegin : Name → Option ℕ → Story → Story → Type 0
MayBegin name promise old new = (new ≡ old) ⊎ Next (begun_at name promise) old new

-- the name of the file of a piece with so many bytes, all of them promised
abbrev pub found_name : Name → Bool → ℕ → Name
found_name stem complete size = if complete then stem else promise_name stem size

-- The piece's file has this name and so many bytes, those that were promised; no other name was touched.
pub record Finds (stem current : Name) (complete : Bool) (size : ℕ) (old new : Story) : Type 0 where
  pub bytes : Bytes
  pub promise : IsPromise stem (reads old.now) bytes
  pub count : length bytes ≡ size
  pub known : complete ≡ is_some (old.now.live stem)
  pub file : File
  pub stands : new.now.live current ≡ Some file
  pub reads_as : content file ≡ bytes
  pub others : (name : Name) → bytes_eq current name ≡ false → new.now.live name ≡ old.now.live name
  pub safe : IsSettled old.now → Safe stem current old.now bytes complete new.now
