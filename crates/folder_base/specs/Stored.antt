-- A file in memory as the disk's.
use Rattle.std.specs.Prelude.{ℕ, take, drop, Option, Some, None}
use Rattle.folder_base.specs.Disk.{Bytes, File}
use Rattle.folder_base.specs.declared.stored.Stored.{Stored}

-- a file with these bytes, of which so many are lasting; all of them where no number is given
abbrev pub split_file : Bytes → Option ℕ → File
split_file bytes None = record { sure = bytes; more = None }
split_file bytes (Some n) = record { sure = take n bytes; more = Some (drop n bytes) }

-- the file that is stored
abbrev pub file_of : Stored → File
file_of stored = split_file stored.bytes.items stored.sure
