-- What becomes of a log.
use Rattle.std.specs.Prelude.{◌≡◌, List, [], Result, MatchResult}
use Rattle.folder_base.specs.Disk.{Name}
use Rattle.folder_base.specs.Log.{told, rejoined, chapter_of, log_story}
use Rattle.folder_base.specs.declared.log.Log.{Log}
use Rattle.folder_base.specs.declared.step.Step.{Step}

-- the log with these steps, which are no longer kept elsewhere
pub record TakesOver (stems : List Name) (old : Log) (steps : List Step) (new : Log) (steps' : List Step) : Type 0 where
  pub plan : new.plan ≡ old.plan
  pub chapter : chapter_of new ≡ chapter_of old
  pub story : log_story new ≡ told (log_story old) steps
  pub moved : steps' ≡ []
  pub stems_are : new.stems.items ≡ stems

-- The log takes the steps over; where memory was refused, nothing but the room for them has changed.
abbrev pub IsSealed : {E : Type 0} → List Name → Log → List Step → Log → List Step → Result (Unit {0}) E → Type 0
IsSealed stems old steps new steps' result = MatchResult result (λ _. TakesOver stems old steps new steps') (λ _. (new ≡ record old { steps = new.steps }) × (new.steps.items ≡ old.steps.items) × (steps' ≡ steps))

-- the log with one more round, and nothing behind it
pub record IsClosed (rest : List Step) (parts : List (List Step)) (old new : Log) : Type 0 where
  pub plan : new.plan ≡ old.plan
  pub chapter : chapter_of new ≡ rejoined (log_story old) old.stems.items rest parts
  pub steps : new.steps.items ≡ []
  pub stems : new.stems.items ≡ []
