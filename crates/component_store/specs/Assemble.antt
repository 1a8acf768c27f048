-- What a crash leaves while a component is joined from its pieces, and what it is then.
use Rattle.std.specs.Prelude.{◌≡◌, ◌⊎◌, ℕ, zero, suc, ◌+◌, ◌<◌, Bool, false, ◌||◌, ◌&&◌, not, nat_eq, [], ◌++◌, Some, None, IsSome, bytes_eq, if◌then◌else◌}
use Rattle.folder_base.specs.Disk.{Name, Bytes, File, Names, Disk, Image, Leaves, May, begins, content, lasting_file}
use Rattle.folder_base.specs.Story.{Story, Through}
use Rattle.folder_steps.specs.Follow.{Follows, Thinner, IsLive}
use Rattle.folder_steps.specs.Make.{HasNew, IsLoose, Replaced, IsReplaced}
use Rattle.plan_record.specs.Names.{joined_of, pieces_of, stem_of}

-- Each of the first pieces is complete.
abbrev pub AllComplete : Name → ℕ → Names → Type 0
AllComplete component count live = (k : ℕ) → k < count → IsSome (live (stem_of component k))

-- These are the bytes of `count` pieces from number k on, in order, as they read.
abbrev pub JoinsFrom : Disk → Name → ℕ → ℕ → Bytes → Type 0
JoinsFrom disk component k zero bytes = bytes ≡ []
JoinsFrom disk component k (suc count) bytes =
    (file : File) × (rest : Bytes) × (disk.live (stem_of component k) ≡ Some file) × JoinsFrom disk component (k + 1) count rest × (bytes ≡ content file ++ rest)

-- The name is that of one of the first pieces.
abbrev pub is_stem : Name → ℕ → Name → Bool
is_stem component zero name = false
is_stem component (suc k) name = bytes_eq (stem_of component k) name || is_stem component k name

-- The files then: the component, and none of its pieces; nor its joined part where there is more to join than one piece.
abbrev pub assembled_names : Name → ℕ → Bytes → Names → Names
assembled_names component count bytes live name =
    if bytes_eq component name then Some (lasting_file bytes)
    else (if is_stem component count name || (not (nat_eq count 1) && bytes_eq (joined_of component) name) then None else live name)

-- The component is its pieces joined in order, and all else is as it was.
pub record IsPutTogether (component : Name) (count : ℕ) (old new : Disk) : Type 0 where
  pub bytes : Bytes
  pub joins : JoinsFrom old component 0 count bytes
  pub live : IsLive (assembled_names component count bytes old.live) new

-- The component stands whole, and pieces may be gone.
pub record IsAssembled (component : Name) (count : ℕ) (disk : Disk) (image : Image) : Type 0 where
  pub bytes : Bytes
  pub joins : JoinsFrom disk component 0 count bytes
  pub before : Image
  pub possible : Leaves disk.live before
  pub whole : image component ≡ Some bytes
  pub others : (name : Name) → bytes_eq component name ≡ false → bytes_eq (joined_of component) name ≡ false → Thinner (begins (pieces_of component)) name (before name) (image name)

-- as before but at the joined part, or with the component whole
abbrev pub IsAssembling : Name → ℕ → Disk → Image → Type 0
IsAssembling component count disk image = IsLoose (joined_of component) disk image ⊎ IsAssembled component count disk image

-- the joined part so far: the first pieces in order, beside all as it was at the start
pub record HasJoined (component : Name) (k : ℕ) (start disk : Disk) : Type 0 where
  pub bytes : Bytes
  pub joins : JoinsFrom start component 0 k bytes
  pub new : HasNew (joined_of component) bytes start disk

-- while the pieces are joined and published: as before but at the joined part, or with all of them under the component's name
abbrev pub IsJoining : Name → ℕ → Disk → Image → Type 0
IsJoining component count disk image = IsLoose (joined_of component) disk image
    ⊎ ((bytes : Bytes) × JoinsFrom disk component 0 count bytes × Follows (May disk) (Replaced (joined_of component) component bytes) image)

-- They are joined and published.
abbrev pub IsJoined : Name → ℕ → Disk → Disk → Type 0
IsJoined component count old new = (bytes : Bytes) × JoinsFrom old component 0 count bytes × IsReplaced (joined_of component) component bytes old new

-- Nothing is pending among the names.
abbrev pub HasNonePending : Disk → Type 0
HasNonePending disk = (image : Image) → May disk image → Leaves disk.live image

-- From the start of a new file on, only that file may differ: so it was while the file was empty, and so it is.
abbrev pub PoursLoose : Name → Story → Story → Type 0
PoursLoose name old new = (start : Story) → HasNew name [] start.now old.now
    → Through start old (IsLoose name start.now) → Through start new (IsLoose name start.now)
