-- What a folder's files are, what a crash may leave of them, and what each call does to them.
use Rattle.std.specs.Prelude.{◌≡◌, ◌⊎◌, ℕ, ◌-◌, Bool, true, false, ◌&&◌, List, [], ◌∷◌, ◌++◌, map, length, take, Option, Some, None, ⊤, option_map, option_and_then, unwrap_or, bytes_eq, nat_eq, nat_lt, if◌then◌else◌}

-- a name, as its bytes
abbrev pub Name : Type 0
Name = List ℕ

-- the bytes of a file
abbrev pub Bytes : Type 0
Bytes = List ℕ

-- A crash leaves exactly `sure`, or, where `more` is there, `sure` and then anything. A read gives `sure` and then `more`.
pub record File : Type 0 where
  pub sure : Bytes
  pub more : Option Bytes

-- the bytes of a file as it reads
abbrev pub content : File → Bytes
content file = file.sure ++ unwrap_or file.more []

-- the standing names, with their files
abbrev pub Names : Type 0
Names = Name → Option File

-- what a name stood for at an earlier moment: the file that has this name now, or a file that has no name any more
pub data Spot : Type 0 where
  still : Name → Spot
  lost : File → Spot

-- what each name stood for at an earlier moment; a name without a spot did not stand then
abbrev pub Spots : Type 0
Spots = Name → Option Spot

-- the names before an unsettled name change, and those that it touched
pub record Older : Type 0 where
  pub touched : List Name
  pub names : Spots

-- A folder's names and files now, and the other names that a crash may leave.
-- `back` has the names before each unsettled name change, the newest first. The other two come of parts that were gathered and
-- are not settled yet, since a part's changes are ordered among themselves alone: in `loose` all of the folder's own changes
-- hold and some of a part's do not, and in `mixed` some of the folder's own do not hold either.
pub record Disk : Type 0 where
  pub live : Names
  pub back : List Older
  pub loose : List Spots
  pub mixed : List Spots

-- what a crash leaves: some names, with their bytes
abbrev pub Image : Type 0
Image = Name → Option Bytes

-- A crash may leave these bytes of a file.
abbrev pub MayHold : Option Bytes → Bytes → Bytes → Type 0
MayHold None sure bytes = bytes ≡ sure
MayHold (Some more) sure bytes = take (length sure) bytes ≡ sure

-- A crash may leave this of a name: no bytes where it does not stand, and where it does bytes that its file may hold.
abbrev pub MayBe : Option File → Option Bytes → Type 0
MayBe None None = ⊤
MayBe None (Some bytes) = ⊥
MayBe (Some file) None = ⊥
MayBe (Some file) (Some bytes) = MayHold file.more file.sure bytes

-- the file of a spot, by the names as they are now
abbrev pub spot_file : Names → Spot → Option File
spot_file live (still name) = live name
spot_file live (lost file) = Some file

-- the names of an earlier moment, with their files as they are now
abbrev pub as_now : Names → Spots → Names
as_now live spots = λ name. option_and_then (spot_file live) (spots name)

-- A crash leaves these names.
abbrev pub Leaves : Names → Image → Type 0
Leaves names image = (name : Name) → MayBe (names name) (image name)

-- A crash leaves the names of one of these earlier moments, with their files as they are now.
abbrev pub LeavesAny : Names → List Spots → Image → Type 0
LeavesAny live [] image = ⊥
LeavesAny live (spots ∷ others) image = Leaves (as_now live spots) image ⊎ LeavesAny live others image

-- A crash leaves names in which all of the folder's own changes hold.
abbrev pub Holds : Disk → Image → Type 0
Holds disk image = Leaves disk.live image ⊎ LeavesAny disk.live disk.loose image

-- the names before each of these changes
abbrev pub earlier : List Older → List Spots
earlier back = map (λ older. older.names) back

-- A crash now may leave this image: the names as they are, or as they were before some unsettled change.
abbrev pub May : Disk → Image → Type 0
May disk image =
    Holds disk image ⊎ (LeavesAny disk.live (earlier disk.back) image ⊎ LeavesAny disk.live disk.mixed image)

-- No name change is unsettled, and every file is synced.
pub record IsSettled (disk : Disk) : Type 0 where
  pub back : disk.back ≡ []
  pub loose : disk.loose ≡ []
  pub mixed : disk.mixed ≡ []
  pub synced : (name : Name) → option_and_then (λ file. file.more) (disk.live name) ≡ None

-- a map with this value at a name
abbrev pub put : {V : Type 0} → (Name → Option V) → Name → Option V → Name → Option V
put names name value = λ other. if bytes_eq name other then value else names other

-- the names as they stand, to be brought back
abbrev pub mark : Names → Spots
mark live = λ name. option_map (λ _. still name) (live name)

-- earlier names, told again once `name` stands for another file or for none
abbrev pub freed_spot : Names → Name → Spot → Option Spot
freed_spot live name (still other) = if bytes_eq name other then option_map lost (live name) else Some (still other)
freed_spot live name (lost file) = Some (lost file)

-- each earlier name, told again once `name` stands for another file or for none
abbrev pub freed : Names → Name → Spots → Spots
freed live name spots = λ other. option_and_then (freed_spot live name) (spots other)

-- earlier names, told again once the file of `from` has the name `to`
abbrev pub moved_spot : Name → Name → Spot → Spot
moved_spot from to (still other) = if bytes_eq from other then still to else still other
moved_spot from to (lost file) = lost file

-- each earlier name, told again once the file of `from` has the name `to`
abbrev pub moved : Name → Name → Spots → Spots
moved from to spots = λ other. option_map (moved_spot from to) (spots other)

-- each earlier name, told again once the file of `from` has the name `to` in place of the file that had it
abbrev pub taken_over : Names → Name → Name → Spots → Spots
taken_over live from to spots = moved from to (freed live to spots)

-- A name change: the names after it, how earlier names are told from then on, and what it makes of names in which it holds.
abbrev pub named : List Name → Names → (Spots → Spots) → (Spots → Spots) → Disk → Disk
named touched live told made disk = record {
  live = live;
  back = map (λ older. record { touched = older.touched; names = told older.names }) (record { touched = touched; names = mark disk.live } ∷ disk.back);
  loose = map made disk.loose;
  mixed = map told (disk.loose ++ disk.mixed);
}

-- a change of one file
abbrev pub changed : Name → (File → File) → Disk → Disk
changed name change disk = record {
  live = put disk.live name (option_map change (disk.live name));
  back = disk.back;
  loose = disk.loose;
  mixed = disk.mixed;
}

-- a file without bytes
abbrev pub empty_file : File
empty_file = record { sure = []; more = None }

-- a file with these bytes, all lasting
abbrev pub lasting_file : Bytes → File
lasting_file bytes = record { sure = bytes; more = None }

-- with bytes put behind its end
abbrev pub longer : Bytes → File → File
longer bytes file = record { sure = file.sure; more = Some (unwrap_or file.more [] ++ bytes) }

-- with its first `len` bytes alone, where it has more
abbrev pub shorter : ℕ → File → File
shorter len file =
    if nat_lt len (length (content file))
    then record { sure = take len file.sure; more = Some (take (len - length file.sure) (unwrap_or file.more [])) }
    else file

-- with all its bytes lasting
abbrev pub firm : File → File
firm file = record { sure = content file; more = None }

-- What each call does.
abbrev pub created : Name → Disk → Disk
created name disk =
    named (name ∷ []) (put disk.live name (Some empty_file))
    (freed disk.live name) (λ spots. put (freed disk.live name spots) name (Some (still name))) disk

-- with the name gone
abbrev pub removed : Name → Disk → Disk
removed name disk =
    named (name ∷ []) (put disk.live name None)
    (freed disk.live name) (λ spots. put (freed disk.live name spots) name None) disk

-- the names once the file of `from` has the name `to`
abbrev pub renamed_names : Name → Name → Names → Names
renamed_names from to live = put (put live from None) to (live from)

-- the file of `from` under the name `to`, which is another name
abbrev pub renamed_apart : Name → Name → Disk → Disk
renamed_apart from to disk =
    named (to ∷ from ∷ []) (renamed_names from to disk.live) (taken_over disk.live from to)
    (λ spots. put (put (taken_over disk.live from to spots) from None) to (Some (still to))) disk

-- A file that is given the name that it has stays as it is.
abbrev pub renamed : Name → Name → Disk → Disk
renamed from to disk = if bytes_eq from to then disk else renamed_apart from to disk

-- with bytes put behind the end of a file
abbrev pub appended : Name → Bytes → Disk → Disk
appended name bytes = changed name (longer bytes)

-- with the first `len` bytes of a file alone, where it has more
abbrev pub cut_to : Name → ℕ → Disk → Disk
cut_to name len = changed name (shorter len)

-- with all bytes of a file lasting
abbrev pub synced : Name → Disk → Disk
synced name = changed name firm

-- with every name change lasting
abbrev pub settled : Disk → Disk
settled disk = record { live = disk.live; back = []; loose = []; mixed = [] }

-- The name begins with these bytes.
abbrev pub begins : Name → Name → Bool
begins [] name = true
begins (c ∷ cs) [] = false
begins (c ∷ cs) (d ∷ ds) = nat_eq c d && begins cs ds
