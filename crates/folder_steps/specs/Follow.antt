-- What a crash may leave, name by name beside what it might have left before.
use Rattle.std.specs.Prelude.{◌≡◌, ◌⊎◌, Bool, false, IsTrue, Option, None}
use Rattle.folder_base.specs.Disk.{Name, Bytes, File, Disk, Image, May}
use Rattle.keep_store.specs.Safe.{reads}

-- Each image that a crash may leave has Q.
abbrev pub Always : (Image → Type 0) → Disk → Type 0
Always Q disk = (image : Image) → May disk image → Q image

-- The name has what it reads as.
abbrev pub IsAsRead : Name → Disk → Image → Type 0
IsAsRead name disk image = image name ≡ reads disk name

-- These names have what they read as.
abbrev pub AsRead : (Name → Bool) → Disk → Image → Type 0
AsRead mine disk image = (name : Name) → IsTrue (mine name) → IsAsRead name disk image

-- An image that comes from one of those, each name by the rule, which takes the name, what it had before and what it has.
pub record Follows (was : Image → Type 0) (rule : Name → Option Bytes → Option Bytes → Type 0) (image : Image) : Type 0 where
  pub before : Image
  pub possible : was before
  pub each : (name : Name) → rule name (before name) (image name)

-- as before, or gone where it may go
abbrev pub Thinner : (Name → Bool) → Name → Option Bytes → Option Bytes → Type 0
Thinner goes name before now = (now ≡ before) ⊎ (IsTrue (goes name) × (now ≡ None))

-- as before but at these names
abbrev pub Beside : (Name → Bool) → Name → Option Bytes → Option Bytes → Type 0
Beside loose name before now = loose name ≡ false → now ≡ before

-- The names and files now are those.
abbrev pub IsLive : (Name → Option File) → Disk → Type 0
IsLive names disk = (name : Name) → disk.live name ≡ names name
