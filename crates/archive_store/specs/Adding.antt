-- What a crash leaves while a line is added to an archive, and what stands then.
use Rattle.std.specs.Prelude.{[], ◌++◌, codes, unwrap_or}
use Rattle.folder_base.specs.Disk.{Name, Bytes, Disk, Image}
use Rattle.keep_store.specs.Safe.{reads}
use Rattle.folder_steps.specs.Make.{IsReplacing, IsReplaced}
use Rattle.archive_store.specs.Lines.{grown}

-- the name under which an archive is written anew
abbrev pub spare_of : Name → Name
spare_of name = name ++ codes ".new"

-- a file's bytes as they read, and none of one that does not stand
abbrev pub bytes_at : Disk → Name → Bytes
bytes_at disk name = unwrap_or (reads disk name) []

-- as before but at the spare name, or with the archive whole and the line in it
abbrev pub IsAdding : Name → Bytes → Disk → Image → Type 0
IsAdding name line disk image = IsReplacing (spare_of name) name (grown (bytes_at disk name) line) disk image

-- The archive has the line too, all its bytes lasting; the spare name is gone, all else is as it was, and no name is pending.
abbrev pub IsAdded : Name → Bytes → Disk → Disk → Type 0
IsAdded name line old new = IsReplaced (spare_of name) name (grown (bytes_at old name) line) old new
