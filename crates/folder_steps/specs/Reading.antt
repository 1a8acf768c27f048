-- What is read of a file.
use Rattle.std.specs.Prelude.{◌≡◌, ℕ, ◌<◌, ◌≤◌, Bool, false, length, take, drop, Option, Some, None, bytes_eq}
use Rattle.folder_base.specs.Disk.{Bytes, File, content}

-- These bytes stand in the content at this place; there are none only at or past its end.
pub record StandsAt (content : Bytes) (at : ℕ) (piece : Bytes) : Type 0 where
  pub is : piece ≡ take (length piece) (drop at content)
  pub within : length piece ≤ length (drop at content)
  pub end : length piece ≡ 0 → length content ≤ at

-- The file stands, and has these bytes there.
abbrev pub StandsIn : Option File → ℕ → Bytes → Type 0
StandsIn None at piece = ⊥
StandsIn (Some file) at piece = StandsAt (content file) at piece

-- The file stands, and has just these bytes.
abbrev pub has_bytes : Option Bytes → Bytes → Bool
has_bytes None bytes = false
has_bytes (Some content) bytes = bytes_eq content bytes

-- The first `count` bytes of the room are the content's: all of them, or as many as there is room for.
pub record StandsFront (content room : Bytes) (count : ℕ) : Type 0 where
  pub is : take count room ≡ take count content
  pub end : count < length room → length content ≤ count

-- So much of a standing file was read.
abbrev pub FrontIsRead : Option File → Bytes → ℕ → Type 0
FrontIsRead None room count = ⊥
FrontIsRead (Some file) room count = StandsFront (content file) room count
