-- What a line of steps tells.
use Rattle.std.specs.Prelude.{◌≡◌, ◌≢◌, Bool, Option, Result, MatchResult, Vec, List, [], map, All}
use Rattle.std.specs.declared.alloc.Global.{Global}
use Rattle.text_base.specs.declared.faults.OutOfMemory.{OutOfMemory}
use Rattle.folder_base.specs.Disk.{Name, Names, Disk}
use Rattle.folder_base.specs.Files.{names_of}
use Rattle.folder_base.specs.Lines.{start, owns, part_at}
use Rattle.folder_base.specs.Log.{told, chapter_of, log_story}
use Rattle.folder_base.specs.Split.{part_names}
use Rattle.folder_base.specs.Steps.{DoneBy}
use Rattle.folder_base.specs.Story.{Story, Part}
use Rattle.folder_base.specs.Tale.{Tale, tale, part_tale}
use Rattle.folder_base.specs.declared.line.Line.{Line}
use Rattle.folder_base.specs.declared.log.Log.{Log}
use Rattle.folder_base.specs.declared.side.Side.TheVariants.{Rest}

-- the story of a line: what was told as it began, and then its steps
abbrev pub line_story : Line → Story
line_story line = told (start line.log.value line.side) line.steps.items

-- The name is the line's to answer for.
abbrev pub line_owns : Line → Name → Bool
line_owns line = owns line.log.value line.side

-- the part that a line has the steps of, if it is one
abbrev pub line_part : Line → Option Part
line_part line = part_at line.log.value line.side

-- Where the call is proper the step was made; else, and where memory was refused, nothing was.
pub record LineSteps (is_proper : Names → Bool) (step : Disk → Disk) (old new : Line) (result : Result Bool OutOfMemory) : Type 0 where
  pub log : new.log ≡ old.log
  pub side : new.side ≡ old.side
  pub done : DoneBy (is_proper (line_story old).now.live) step (line_story old) (line_story new) result

-- what a line tells that has no parts
abbrev pub line_tale : Line → Tale
line_tale line = tale line.log.value line.side line.steps.items []

-- the names of each line's files
abbrev pub line_names : List Line → List Names
line_names lines = map (λ line. names_of line.files) lines

-- a line for each stem, each of a part as it is handed out
pub record AreLines (log : Log) (stems : List Name) (lines : List Line) : Type 0 where
  pub tales : map line_tale lines ≡ map (part_tale (log_story log).now) stems
  pub plans : All (λ line. line.log.value.plan ≡ log.plan) lines
  pub parts : All (λ line. line.side ≢ Rest) lines
  pub files : line_names lines ≡ map (λ stem. part_names stem (log_story log).now.live) stems

-- The rest of the names, and a line for each stem; where memory was refused, what was.
pub record HandedOut (stems : List Name) (old new : Line) (lines : List Line) : Type 0 where
  pub side : new.side ≡ Rest
  pub steps : new.steps.items ≡ []
  pub plan : new.log.value.plan ≡ old.log.value.plan
  pub story : log_story new.log.value ≡ line_story old
  pub stems_are : new.log.value.stems.items ≡ stems
  pub lines_are : AreLines new.log.value stems lines

-- The line tells the same, though its steps may stand in its log by now.
pub record StaysWhole (old new : Line) : Type 0 where
  pub side : new.side ≡ old.side
  pub plan : new.log.value.plan ≡ old.log.value.plan
  pub chapter : chapter_of new.log.value ≡ chapter_of old.log.value
  pub story : line_story new ≡ line_story old

-- The names were handed out to parts; where memory was refused, the line tells what it told.
abbrev pub HandsOut : List Name → Line → Line → Result (Vec Line Global) OutOfMemory → Type 0
HandsOut stems old new result = MatchResult result (λ lines. HandedOut stems old new lines.items) (λ _. StaysWhole old new)
