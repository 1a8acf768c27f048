-- The files of a folder in memory as a disk's names.
use Rattle.std.specs.Prelude.{Option, Some, None, option_map, String}
use Rattle.std.specs.BTreeMap.{get_by_text, BTreeMap}
use Rattle.std.specs.declared.alloc.Global.{Global}
use Rattle.folder_base.specs.Disk.{Name, File, Names, put}
use Rattle.folder_base.specs.Stored.{file_of}
use Rattle.folder_base.specs.declared.stored.Stored.{Stored}

-- the names of the files that a map holds
abbrev pub names_of : BTreeMap (String Global) Stored → Names
names_of files = λ name. option_map file_of (get_by_text files name)

-- with the file of one name changed, where it stands
abbrev pub changed_name : Name → (File → File) → Names → Names
changed_name name change live = put live name (option_map change (live name))

-- what stands in the first, and else in the second
abbrev pub or_else : Option File → Option File → Option File
or_else None other = other
or_else (Some file) other = Some file

-- at each name what stands in the first, and else what stands in the second
abbrev pub over : Names → Names → Names
over names others = λ name. or_else (names name) (others name)

-- what stands in the second where nothing stands in the first
abbrev pub if_none : Option File → Option File → Option File
if_none None other = other
if_none (Some file) other = None

-- the names of the second that do not stand in the first
abbrev pub without : Names → Names → Names
without names others = λ name. if_none (names name) (others name)
