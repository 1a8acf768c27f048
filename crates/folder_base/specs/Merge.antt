-- How the places of parts that are back become one with the rest.
use Rattle.std.specs.Prelude.{◌≡◌, ◌≢◌, ℕ, ◌≤◌, List, [], length, String, Vec, vec_capacity, Result}
use Rattle.std.specs.Result.{MatchResult}
use Rattle.std.specs.BTreeMap.{BTreeMap}
use Rattle.std.specs.declared.alloc.Global.{Global}
use Rattle.text_base.specs.declared.faults.OutOfMemory.{OutOfMemory}
use Rattle.folder_base.specs.Files.{names_of}
use Rattle.folder_base.specs.Index.{IsIndex}
use Rattle.folder_base.specs.Lines.{start}
use Rattle.folder_base.specs.Log.{chapter_of}
use Rattle.folder_base.specs.Places.{ArePlaced}
use Rattle.folder_base.specs.Steps.{Agrees}
use Rattle.folder_base.specs.Tale.{tale, all_handed}
use Rattle.folder_base.specs.declared.log.Log.{Log}
use Rattle.folder_base.specs.declared.place.Place.{Place}
use Rattle.folder_base.specs.declared.side.Side.{Side}
use Rattle.folder_base.specs.declared.side.Side.TheVariants.{All, Rest}
use Rattle.folder_base.specs.declared.step.Step.{Step}
use Rattle.folder_base.specs.declared.stored.Stored.{Stored}

-- the files that are held, by their names
abbrev pub Files : Type 0
Files = BTreeMap (String Global) Stored

-- the places of parts that are back
abbrev pub Places : Type 0
Places = Vec Place Global

-- Where parts are out the index has the place of each of their stems, and no other.
abbrev pub IsIndexed : Log → Side → BTreeMap (Vec ℕ Global) ℕ → Type 0
IsIndexed log side index = side ≡ Rest → IsIndex log.stems.items index

-- Where parts are out there is room for a place for each of them.
abbrev pub HasRoom : Log → Side → Places → Type 0
HasRoom log side places = side ≡ Rest → length log.stems.items ≤ vec_capacity places

-- The places are those of the first parts that were handed out.
abbrev pub HasPlaces : Log → Places → Type 0
HasPlaces log places = ArePlaced (all_handed log) places.items

-- Only beside the rest is there a place.
abbrev pub HasNone : Side → Places → Type 0
HasNone side places = side ≢ Rest → length places.items ≡ 0

-- All is one, and the same is told.
pub record IsOne (old : Log) (steps : List Step) (places : Places) (new : Log) (steps' : List Step) (places' : Places) (files' : Files) : Type 0 where
  pub plan : new.plan ≡ old.plan
  pub empty : places'.items ≡ []
  pub same : tale new All steps' places'.items ≡ tale old Rest steps places.items
  pub agrees : Agrees (start new All) steps' files'

-- Nothing has changed but the room for one round more.
pub record IsApart (old : Log) (steps : List Step) (places : Places) (files : Files) (new : Log) (steps' : List Step) (places' : Places) (files' : Files) : Type 0 where
  pub plan : new.plan ≡ old.plan
  pub chapter : chapter_of new ≡ chapter_of old
  pub log_steps : new.steps ≡ old.steps
  pub stems : new.stems ≡ old.stems
  pub steps_are : steps' ≡ steps
  pub places_are : places' ≡ places
  pub files_are : names_of files' ≡ names_of files

-- All became one; where memory was refused, it is apart as it was.
abbrev pub Merges : Log → List Step → Places → Files → Log → List Step → Places → Files → Result (Unit {0}) OutOfMemory → Type 0
Merges old steps places files new steps' places' files' result =
    MatchResult result (λ _. IsOne old steps places new steps' places' files') (λ _. IsApart old steps places files new steps' places' files')

-- the same, with the names that are told of
abbrev pub MergesShared : Log → List Step → Places → Files → Log → Side → List Step → Places → Files → Result (Unit {0}) OutOfMemory → Type 0
MergesShared old steps places files new side steps' places' files' result =
    MatchResult result (λ _. (side ≡ All) × IsOne old steps places new steps' places' files') (λ _. (side ≡ Rest) × IsApart old steps places files new steps' places' files')

-- Nothing stands in the places, and parts are out if they were ever handed out.
pub record IsMerged (log : Log) (side : Side) (places : Places) : Type 0 where
  pub empty : places.items ≡ []
  pub out : side ≡ Rest → log.stems.items ≢ []
