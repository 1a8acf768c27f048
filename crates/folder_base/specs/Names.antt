-- What a folder answers that is asked for its names, and for a file's size and bytes.
use Rattle.std.specs.Prelude.{◌≡◌, ◌⊎◌, ◌↔◌, ℕ, ◌≤◌, IsTrue, List, length, take, drop, IsSome, Contains, Option, Some, None}
use Rattle.std.specs.Cmp.Lexicographic.{slice_cmp}
use Rattle.std.specs.Ordering.{nat_cmp}
use Rattle.std.specs.List.Sorted.{IsStrictlySortedBy}
use Rattle.folder_base.specs.Disk.{Name, Bytes, File, Names, content, begins}

-- just the standing names with this beginning, in order
pub record Lists (prefix : Name) (live : Names) (names : List Name) : Type 0 where
  pub each : (name : Name) → Contains names name ↔ (IsTrue (begins prefix name) × IsSome (live name))
  pub ordered : IsStrictlySortedBy (slice_cmp nat_cmp) names

-- The first `count` bytes of the buffer are those that stand at `at`; none only where none stand there.
pub record ReadsAt (content : Bytes) (at : ℕ) (buffer : Bytes) (count : ℕ) : Type 0 where
  pub fits : count ≤ length buffer
  pub bytes : take count buffer ≡ take count (drop at content)
  pub stand : count ≤ length (drop at content)
  pub end : count ≡ 0 → (length buffer ≡ 0) ⊎ (length content ≤ at)

-- So much of a standing file was read.
abbrev pub ReadsFile : Option File → ℕ → Bytes → ℕ → Type 0
ReadsFile None at buffer count = ⊥
ReadsFile (Some file) at buffer count = ReadsAt (content file) at buffer count
