-- What a folder in memory tells of its parts and its story, by what it keeps.
use Rattle.std.specs.Prelude.{◌≡◌, ℕ, Bool, true, not, ◌&&◌, List, [], ◌∷◌, length, map, Option, Some, None, Result}
use Rattle.std.specs.Option.{option_map_or}
use Rattle.text_base.specs.declared.faults.OutOfMemory.{OutOfMemory}
use Rattle.folder_base.specs.Disk.{Name, Names, Disk}
use Rattle.folder_base.specs.Lines.{start}
use Rattle.folder_base.specs.Log.{told, newborn, lasting, left, handed, parts_told, chapter_of, log_story}
use Rattle.folder_base.specs.Parts.{is_part, is_in_some, inside}
use Rattle.folder_base.specs.Places.{steps_in}
use Rattle.folder_base.specs.Steps.{DoneBy}
use Rattle.folder_base.specs.Story.{Part, Story, gathered, stems}
use Rattle.folder_base.specs.declared.log.Log.{Log}
use Rattle.folder_base.specs.declared.place.Place.{Place}
use Rattle.folder_base.specs.declared.side.Side.{Side}
use Rattle.folder_base.specs.declared.side.Side.TheVariants.{All, Part as PartSide, Rest}
use Rattle.folder_base.specs.declared.step.Step.{Step}

-- what is told of a folder: which part it is, its parts that are out, the clock as they were handed out, and its story
pub record Tale : Type 0 where
  pub part : Option Part
  pub out : List Part
  pub since : ℕ
  pub story : Story

-- of a folder with these files, nothing of which is pending
abbrev pub new_tale : Names → Tale
new_tale live = record { part = None; out = []; since = 0; story = newborn (lasting live) }

-- of a part as it is handed out
abbrev pub part_tale : Disk → Name → Tale
part_tale disk stem = record { part = Some (handed disk stem); out = []; since = 0; story = newborn (inside stem disk) }

-- the parts as they were handed out last
abbrev pub all_handed : Log → List Part
all_handed log = map (handed (log_story log).now) log.stems.items

-- None is out once they are back.
abbrev pub still_out : List Place → List Part → List Part
still_out [] parts = parts
still_out (place ∷ places) parts = []

-- the clock once the parts are out
abbrev pub clock_out : Log → ℕ
clock_out log = length (start log Rest).past

-- what is told by a log, a side of its names, the steps since, and the places of parts that are back
abbrev pub tale : Log → Side → List Step → List Place → Tale
tale log All steps places = record { part = None; out = []; since = (chapter_of log).since; story = told (start log All) steps }
tale log (PartSide stem) steps places =
    record { part = Some (handed (log_story log).now stem); out = []; since = 0; story = told (start log (PartSide stem)) steps }
tale log Rest steps places = record {
  part = None;
  out = still_out places (all_handed log);
  since = clock_out log;
  story = gathered (clock_out log) (parts_told (all_handed log) (steps_in places)) (told (start log Rest) steps);
}

-- once parts with these stems are out
abbrev pub fanned_tale : List Name → Tale → Tale
fanned_tale stems old = record { part = old.part; out = map (handed old.story.now) stems; since = length (left stems old.story).past; story = left stems old.story }

-- once these parts are back
abbrev pub gathered_tale : List (Name × Story) → Tale → Tale
gathered_tale parts old = record { part = old.part; out = []; since = old.since; story = gathered old.since parts old.story }

-- The name is the folder's to answer for.
abbrev pub tale_owns : Tale → Name → Bool
tale_owns tale name = option_map_or (λ part. is_part part.stem name) tale.part true && not (is_in_some (stems tale.out) name)

-- Where the call is proper the step was made; else, and where memory was refused, nothing was.
pub record TaleSteps (is_proper : Names → Bool) (step : Disk → Disk) (old new : Tale) (result : Result Bool OutOfMemory) : Type 0 where
  pub part : new.part ≡ old.part
  pub out : new.out ≡ old.out
  pub since : new.since ≡ old.since
  pub done : DoneBy (is_proper old.story.now.live) step old.story new.story result
