-- How a job's turn goes, call by call.
use Rattle.std.specs.Prelude.{◌≡◌, ◌⊎◌, Bool, true, false, IsTrue, List, map, is_some, IfOk, Result, MatchResult, Ok, Err}
use Rattle.folder_base.specs.Story.{World}
use Rattle.folder_base.specs.declared.store_fault.StoreFault.{StoreFault}
use Rattle.folder_steps.specs.Blames.{BlamesMemory}
use Rattle.keep_store.specs.Opening.{Looked}
use Rattle.link_http.specs.Wire.{Wire}
use Rattle.tool_chain.specs.Runs.{Bench}
use Rattle.job_pieces.specs.declared.component.Component.{Component}
use Rattle.job_plan.specs.declared.job.Job.{Job}
use Rattle.job_turn.specs.Clearing.{some_recorded}
use Rattle.job_turn.specs.Components.{Makes}
use Rattle.job_turn.specs.Ends.{fault_at, stood_answer, turn_answer}
use Rattle.job_turn.specs.Making.{is_alone, Cleared, Completes}
use Rattle.job_turn.specs.declared.end.FaultAt.TheVariants as at
use Rattle.job_turn.specs.declared.end.JobEnd.{JobEnd}
use Rattle.job_turn.specs.declared.end.JobEnd.TheVariants.{Already}
use Rattle.job_turn.specs.declared.end.Stop.{Stop}
use Rattle.job_turn.specs.declared.end.TurnFault.{TurnFault}
use Rattle.job_turn.specs.declared.end.TurnFault.TheVariants.{OutOfMemory}
use Rattle.job_turn.specs.declared.frame.Frame.{Frame}
use Rattle.job_turn.specs.declared.settings.Settings.{Settings}

-- The folder was asked whether something is so, and that was not changed.
pub record Asks (is : Bool) (old new : World) (told : Result Bool StoreFault) : Type 0 where
  pub looked : Looked old new
  pub right : IsTrue new.tells → IfOk told (λ answer. answer ≡ is)
  pub blames : BlamesMemory old new told

-- By whether a record of its components stands, what a job needed whose file stands was removed.
abbrev pub ClearsWhere : Frame → Result Bool StoreFault → World → World → Result JobEnd TurnFault → Type 0
ClearsWhere frame (Ok true) old new result = (cleared : Result (Unit {0}) TurnFault) × Cleared frame old new cleared × (result ≡ stood_answer cleared)
ClearsWhere frame (Ok false) old new result = (result ≡ Ok Already) × (new ≡ old)
ClearsWhere frame (Err fault) old new result = (result ≡ Err (fault_at at.Final fault)) × (new ≡ old)

-- The job's file stands: where a record of its components does, what it needed was removed.
pub record Stood (frame : Frame) (old new : World) (result : Result JobEnd TurnFault) : Type 0 where
  pub mid : World
  pub recorded : Result Bool StoreFault
  pub asks : Asks (some_recorded old.story.now.live frame.components.items) old mid recorded
  pub cleared : ClearsWhere frame recorded mid new result

-- The frame is the job's.
pub record IsFrameOf (job : Job) (settings : Settings) (frame : Frame) : Type 0 where
  pub final_name : frame.final_name ≡ job.final_name
  pub components : frame.components.items ≡ map (λ component. component.name) job.components.items
  pub steps : frame.steps.items ≡ job.steps.items
  pub execs : frame.execs.items ≡ job.execs.items
  pub keep : frame.keep ≡ settings.keep

module _ {D : Type 0} (wire : D → Wire) (settings : Settings) where
  -- The components were made, and where all came to be whole the rest was done.
  pub record Works (frame : Frame) (components : List Component) (bench bench' : Bench) (old new : World) (result : Result (Unit {0}) Stop) (ds es : List D) : Type 0 where
    pub mid : World
    pub made : Result (Unit {0}) Stop
    pub makes : Makes wire (is_alone frame) settings 0 components old mid made ds es
    pub behind : MatchResult made (λ _. Completes frame bench bench' mid new result) (λ stop. (result ≡ Err stop) × (new ≡ mid) × (bench' ≡ bench))

  -- By whether the file stands, what it needed was removed, or it was made.
  abbrev pub WorksWhere : Frame → List Component → Result Bool StoreFault → Bench → Bench → World → World → Result JobEnd TurnFault → List D → List D → Type 0
  WorksWhere frame components (Ok true) bench bench' old new result ds es = Stood frame old new result × (bench' ≡ bench) × (es ≡ ds)
  WorksWhere frame components (Ok false) bench bench' old new result ds es = (done : Result (Unit {0}) Stop) × Works frame components bench bench' old new done ds es × (result ≡ turn_answer done)
  WorksWhere frame components (Err fault) bench bench' old new result ds es = (result ≡ Err (fault_at at.Final fault)) × (new ≡ old) × (bench' ≡ bench) × (es ≡ ds)

  -- A turn that had the memory to begin.
  pub record Begins (job : Job) (bench bench' : Bench) (old new : World) (result : Result JobEnd TurnFault) (ds es : List D) : Type 0 where
    pub frame : Frame
    pub frame_is : IsFrameOf job settings frame
    pub mid : World
    pub stands : Result Bool StoreFault
    pub asks : Asks (is_some (old.story.now.live job.final_name)) old mid stands
    pub behind : WorksWhere frame job.components.items stands bench bench' mid new result ds es

  -- One that had not.
  pub record BeginsNot (bench bench' : Bench) (old new : World) (result : Result JobEnd TurnFault) (ds es : List D) : Type 0 where
    pub refused : result ≡ Err OutOfMemory
    pub bench_same : bench' ≡ bench
    pub same : new ≡ old
    pub unasked : es ≡ ds

  -- a job's turn
  abbrev pub Goes : Job → Bench → Bench → World → World → Result JobEnd TurnFault → List D → List D → Type 0
  Goes job bench bench' old new result ds es = Begins job bench bench' old new result ds es ⊎ BeginsNot bench bench' old new result ds es
