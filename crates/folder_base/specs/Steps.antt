-- What a call on files in memory does to them, and to the steps that are kept.
use Rattle.std.specs.Prelude.{◌≡◌, Bool, true, List, Result, MatchBool, is_some, is_none, String}
use Rattle.std.specs.Result.{MatchResult}
use Rattle.std.specs.BTreeMap.{BTreeMap}
use Rattle.std.specs.declared.alloc.Global.{Global}
use Rattle.text_base.specs.declared.faults.OutOfMemory.{OutOfMemory}
use Rattle.folder_base.specs.Disk.{Name, Names, Disk}
use Rattle.folder_base.specs.Story.{Story, Next}
use Rattle.folder_base.specs.Files.{names_of}
use Rattle.folder_base.specs.Log.{told}
use Rattle.folder_base.specs.declared.step.Step.{Step}
use Rattle.folder_base.specs.declared.stored.Stored.{Stored}

-- the files are those that the steps tell
abbrev pub Agrees : Story → List Step → BTreeMap (String Global) Stored → Type 0
Agrees start steps files = names_of files ≡ (told start steps).now.live

-- Where the call is proper the step was made; else, and where memory was refused, nothing was.
abbrev pub DoneBy : {E : Type 0} → Bool → (Disk → Disk) → Story → Story → Result Bool E → Type 0
DoneBy is_proper step old new done = MatchResult done (λ was. (was ≡ is_proper) × MatchBool was (Next step old new) (new ≡ old)) (λ _. new ≡ old)

-- so from each start, and the files agree again
abbrev pub Steps : (Names → Bool) → (Disk → Disk) → List Step → BTreeMap (String Global) Stored → List Step → BTreeMap (String Global) Stored → Result Bool OutOfMemory → Type 0
Steps is_proper step old files new files' done =
    (start : Story) → Agrees start old files
    → Agrees start new files' × DoneBy (is_proper (told start old).now.live) step (told start old) (told start new) done

-- The name stands.
abbrev pub is_there : Name → Names → Bool
is_there name live = is_some (live name)

-- The name is free.
abbrev pub is_free : Name → Names → Bool
is_free name live = is_none (live name)

-- Whatever stands: the call may always be made.
abbrev pub is_any : Names → Bool
is_any live = true
