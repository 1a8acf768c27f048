-- A new file beside all as it was, and a new file that takes a name's place.
use Rattle.std.specs.Prelude.{◌≡◌, ◌⊎◌, ◌∷◌, [], Option, Some, None, bytes_eq, length, take, if◌then◌else◌}
use Rattle.folder_base.specs.Disk.{Name, Bytes, File, still, Disk, Image, May, put, named, freed, content, appended, lasting_file}
use Rattle.folder_base.specs.Story.{Story, DoneInPart, Through}
use Rattle.folder_steps.specs.Follow.{Follows, Beside, IsLive}

-- a new file under a name
abbrev pub filled : Name → File → Disk → Disk
filled name file disk =
    named (name ∷ []) (put disk.live name (Some file))
    (freed disk.live name) (λ spots. put (freed disk.live name spots) name (Some (still name))) disk

-- A new file of these bytes stands under the name, and all else is as it was at the start.
pub record HasNew (name : Name) (bytes : Bytes) (start disk : Disk) : Type 0 where
  pub file : File
  pub content_is : content file ≡ bytes
  pub filled_is : disk ≡ filled name file start

-- Nothing was done, or the first of these bytes were put behind the file's end, some of them or all.
abbrev pub Grows : Name → Bytes → Story → Story → Type 0
Grows name bytes old new = (new ≡ old) ⊎ DoneInPart (λ count. appended name (take count bytes)) (length bytes) old new

-- only the file under this name may differ
abbrev pub IsLoose : Name → Disk → Image → Type 0
IsLoose name disk = Follows (May disk) (Beside (bytes_eq name))

-- From the start of a new file on, only that file may differ: so it was, and so it is.
abbrev pub KeepsLoose : Name → Story → Story → Type 0
KeepsLoose name old new = (start : Story) (bytes : Bytes) → HasNew name bytes start.now old.now
    → Through start old (IsLoose name start.now) → Through start new (IsLoose name start.now)

-- what a name has once the new file took the place of `to`
abbrev pub Replaced : Name → Name → Bytes → Name → Option Bytes → Option Bytes → Type 0
Replaced spare to bytes name before now = now ≡ (if bytes_eq to name then Some bytes else (if bytes_eq spare name then None else before))

-- as before but at the spare name, or with the new file whole in its place
abbrev pub IsReplacing : Name → Name → Bytes → Disk → Image → Type 0
IsReplacing spare to bytes disk image = IsLoose spare disk image ⊎ Follows (May disk) (Replaced spare to bytes) image

-- From the start of a new file on, that file alone may differ, or it has taken the place of `to` whole.
abbrev pub Publishes : Name → Name → Story → Story → Type 0
Publishes spare to old new = (start : Story) (bytes : Bytes) → HasNew spare bytes start.now old.now
    → Through start old (IsLoose spare start.now) → Through start new (IsReplacing spare to bytes start.now)

-- The new file has taken the place of `to`, all its bytes lasting and nothing pending among the names.
pub record IsReplaced (spare to : Name) (bytes : Bytes) (old new : Disk) : Type 0 where
  pub live : IsLive (put (put old.live spare None) to (Some (lasting_file bytes))) new
  pub back : new.back ≡ []
  pub loose : new.loose ≡ []
  pub mixed : new.mixed ≡ []
