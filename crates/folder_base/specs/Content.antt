-- What the files and steps of a folder tell.
use Rattle.std.specs.Prelude.{◌≡◌, ◌≢◌, Bool, List, [], ◌∷◌, ◌++◌, length, map, slice_get, Some, Vec, All, Result, MatchBool, MatchResult}
use Rattle.std.specs.declared.alloc.Global.{Global}
use Rattle.text_base.specs.declared.faults.OutOfMemory.{OutOfMemory}
use Rattle.folder_base.specs.Disk.{Name, Names, Disk}
use Rattle.folder_base.specs.Line.{line_part, line_tale}
use Rattle.folder_base.specs.Merge.{IsMerged}
use Rattle.folder_base.specs.Places.{steps_in}
use Rattle.folder_base.specs.Story.{Part}
use Rattle.folder_base.specs.Tale.{Tale, tale, tale_owns, TaleSteps, all_handed, still_out, part_tale, fanned_tale}
use Rattle.folder_base.specs.declared.content.Content.{Content}
use Rattle.folder_base.specs.declared.line.Line.{Line}
use Rattle.folder_base.specs.declared.log.Log.{Log}
use Rattle.folder_base.specs.declared.place.Place.{Place}
use Rattle.folder_base.specs.declared.side.Side.{Side}
use Rattle.folder_base.specs.declared.side.Side.TheVariants.{Rest}
use Rattle.folder_base.specs.declared.step.Step.{Step}

-- what a content tells by its log, its side, its steps and its places
abbrev pub content_tale : Content → Tale
content_tale content = tale content.line.log.value content.line.side content.line.steps.items content.places.items

-- The name is the content's to answer for.
abbrev pub content_owns : Content → Name → Bool
content_owns content = tale_owns (content_tale content)

-- It has parts that are back, or had none to hand out.
abbrev pub Splits : Content → Bool → Type 0
Splits content is_split = MatchBool is_split
    ((content.line.side ≡ Rest) × (still_out content.places.items (all_handed content.line.log.value) ≡ []))
    (IsMerged content.line.log.value content.line.side content.places)

-- the step was made, or nothing was, by the same plan
pub record ContentSteps (is_proper : Names → Bool) (step : Disk → Disk) (old new : Content) (result : Result Bool OutOfMemory) : Type 0 where
  pub plan : new.line.log.value.plan ≡ old.line.log.value.plan
  pub steps : TaleSteps is_proper step (content_tale old) (content_tale new) result

-- It is the part whose place is the next.
pub record IsNext (log : Log) (side : Side) (places : List Place) (part : Line) : Type 0 where
  pub is_rest : side ≡ Rest
  pub which : Part
  pub is_it : line_part part ≡ Some which
  pub next : slice_get (all_handed log) (length places) ≡ Some which

-- A part's steps stand behind those that are there, and all else is as it was.
pub record TakesBack (old : Content) (steps : List Step) (new : Content) : Type 0 where
  pub line : new.line ≡ old.line
  pub places : steps_in new.places.items ≡ steps_in old.places.items ++ steps ∷ []

-- The rest of the names, and a line for each stem.
pub record FannedOut (stems : List Name) (old new : Content) (lines : List Line) : Type 0 where
  pub plan : new.line.log.value.plan ≡ old.line.log.value.plan
  pub tale_is : content_tale new ≡ fanned_tale stems (content_tale old)
  pub tales : map line_tale lines ≡ map (part_tale (content_tale old).story.now) stems
  pub plans : All (λ line. line.log.value.plan ≡ old.line.log.value.plan) lines
  pub parts : All (λ line. line.side ≢ Rest) lines

-- Nothing has changed that is told.
pub record TellsSame (old new : Content) : Type 0 where
  pub plan : new.line.log.value.plan ≡ old.line.log.value.plan
  pub tale_is : content_tale new ≡ content_tale old

-- The parts are out; where memory was refused, what is told is as it was.
abbrev pub FansOut : List Name → Content → Content → Result (Vec Line Global) OutOfMemory → Type 0
FansOut stems old new result = MatchResult result (λ lines. FannedOut stems old new lines.items) (λ _. TellsSame old new)
