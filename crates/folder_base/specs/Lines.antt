-- What some of a folder's names have been, from the end of a log on.
use Rattle.std.specs.Prelude.{◌≡◌, Bool, true, false, not, String, Option, Some, None}
use Rattle.std.specs.BTreeMap.{BTreeMap}
use Rattle.std.specs.declared.alloc.Global.{Global}
use Rattle.folder_base.specs.Disk.{Name}
use Rattle.folder_base.specs.Files.{names_of}
use Rattle.folder_base.specs.Log.{log_story, newborn, handed, left}
use Rattle.folder_base.specs.Parts.{is_part, is_in_some, inside}
use Rattle.folder_base.specs.Story.{Story, Part}
use Rattle.folder_base.specs.declared.log.Log.{Log}
use Rattle.folder_base.specs.declared.side.Side.{Side}
use Rattle.folder_base.specs.declared.side.Side.TheVariants.{All, Part as PartSide, Rest}
use Rattle.folder_base.specs.declared.stored.Stored.{Stored}

-- the story of these names as they were taken apart
abbrev pub start : Log → Side → Story
start log All = log_story log
start log (PartSide stem) = newborn (inside stem (log_story log).now)
start log Rest = left log.stems.items (log_story log)

-- The name belongs to this side: all names, a part's own, or those of no part that is out.
abbrev pub owns : Log → Side → Name → Bool
owns log All name = true
owns log (PartSide stem) name = is_part stem name
owns log Rest name = not (is_in_some log.stems.items name)

-- No other name stands here.
abbrev pub HasOwn : Log → Side → BTreeMap (String Global) Stored → Type 0
HasOwn log side files = (name : Name) → owns log side name ≡ false → names_of files name ≡ None

-- which part it is
abbrev pub part_at : Log → Side → Option Part
part_at log All = None
part_at log (PartSide stem) = Some (handed (log_story log).now stem)
part_at log Rest = None
