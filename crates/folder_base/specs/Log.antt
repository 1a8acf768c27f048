-- What a folder in memory tells by the steps that it keeps.
use Rattle.std.specs.Prelude.{ℕ, List, [], ◌∷◌, Some, None, length, map}
use Rattle.folder_base.specs.Disk.{Name, Names, Disk, put, lasting_file, created, appended, cut_to, synced, renamed, removed, settled}
use Rattle.folder_base.specs.Parts.{inside, outside}
use Rattle.folder_base.specs.Story.{Story, Part, whole, gathered}
use Rattle.folder_base.specs.declared.file.File.{File as FileMem}
use Rattle.folder_base.specs.declared.log.Log.{Log}
use Rattle.folder_base.specs.declared.round.Round.{Round}
use Rattle.folder_base.specs.declared.step.Step.{Step}
use Rattle.folder_base.specs.declared.step.Step.TheVariants.{Created, Appended, Cut, Synced, Renamed, Removed, Settled}

-- names and files put beside others, all their bytes lasting
abbrev pub stood : Names → List FileMem → Names
stood live [] = live
stood live (file ∷ files) = stood (put live file.name (Some (lasting_file file.bytes.items))) files

-- a disk on which nothing is pending
abbrev pub lasting : Names → Disk
lasting live = record { live = live; back = []; loose = []; mixed = [] }

-- what a step does to a disk
abbrev pub does : Step → Disk → Disk
does (Created name) = created name
does (Appended name bytes) = appended name bytes.items
does (Cut name len) = cut_to name len
does (Synced name) = synced name
does (Renamed from to) = renamed from to
does (Removed name) = removed name
does Settled = settled

-- one step more
abbrev pub after : Step → Story → Story
after step story = record { now = does step story.now; past = whole story.now ∷ story.past }

-- a story with these steps behind it
abbrev pub told : Story → List Step → Story
told story [] = story
told story (step ∷ steps) = told (after step story) steps

-- the story of a folder that begins with these files
abbrev pub begun : List FileMem → Story
begun files = record { now = lasting (stood (λ _. None) files); past = [] }

-- a story that begins with this disk
abbrev pub newborn : Disk → Story
newborn disk = record { now = disk; past = [] }

-- a part as it is handed out
abbrev pub handed : Disk → Name → Part
handed disk stem = record { stem = stem; birth = inside stem disk }

-- the other names, once the parts are out
abbrev pub left : List Name → Story → Story
left stems story = record { now = outside stems story.now; past = whole story.now ∷ story.past }

-- what each part did from then on
abbrev pub parts_told : List Part → List (List Step) → List (Name × Story)
parts_told [] lists = []
parts_told (part ∷ parts) [] = []
parts_told (part ∷ parts) (steps ∷ lists) = (part.stem, told (newborn part.birth) steps) ∷ parts_told parts lists

-- a story, and its clock as the last parts were handed out
pub record Chapter : Type 0 where
  pub story : Story
  pub since : ℕ

-- a story once these parts have gone out of it and are back
abbrev pub rejoined : Story → List Name → List Step → List (List Step) → Chapter
rejoined before stems rest parts = record {
  story = gathered (length (left stems before).past) (parts_told (map (handed before.now) stems) parts) (told (left stems before) rest);
  since = length (left stems before).past;
}

-- a chapter with one round more: its steps, and then the time with its parts out
abbrev pub after_round : Chapter → Round → Chapter
after_round chapter round =
    rejoined (told chapter.story round.before.items) round.stems.items round.rest.items (map (λ steps. steps.items) round.parts.items)

-- a chapter with these rounds more, one after another
abbrev pub chapter_after : Chapter → List Round → Chapter
chapter_after chapter [] = chapter
chapter_after chapter (round ∷ rounds) = chapter_after (after_round chapter round) rounds

-- what was told as the last parts came back
abbrev pub chapter_of : Log → Chapter
chapter_of log = chapter_after (record { story = begun log.birth.items; since = 0 }) log.rounds.items

-- and from there to the end of the log
abbrev pub log_story : Log → Story
log_story log = told (chapter_of log).story log.steps.items
