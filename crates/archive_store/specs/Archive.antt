-- The lines that an archive has.
use Rattle.std.specs.Prelude.{◌≡◌, ◌||◌, Bool, None, bytes_eq, string_bytes}
use Rattle.std.specs.BTreeSet.{contains_text}
use Rattle.folder_base.specs.Disk.{Name, Bytes}
use Rattle.archive_store.specs.Lines.{lines_of, is_among, bad_line}
use Rattle.archive_store.specs.declared.archive.Archive.{Archive}

-- the name of its file
abbrev pub name_of : Archive → Name
name_of archive = string_bytes archive.name

-- The line is one of the archive's.
abbrev pub has_line : Archive → Bytes → Bool
has_line archive line = contains_text archive.lines line

-- These bytes are UTF-8 line by line, and the archive has their lines.
pub record HasRead (bytes : Bytes) (archive : Archive) : Type 0 where
  pub good : bad_line bytes ≡ None
  pub lines : (line : Bytes) → has_line archive line ≡ is_among (lines_of bytes) line

-- It has this line too,
abbrev pub HasAlso : Bytes → Archive → Archive → Type 0
HasAlso line old new = (other : Bytes) → has_line new other ≡ (bytes_eq line other || has_line old other)

-- or those that it had.
abbrev pub HasSame : Archive → Archive → Type 0
HasSame old new = (other : Bytes) → has_line new other ≡ has_line old other
