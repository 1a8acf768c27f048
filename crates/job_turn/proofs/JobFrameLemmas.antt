-- What was done by a job's frame was done for the job.
use Rattle.std.proofs.Common.{◌≡◌, List, map, length, ap, subst}
use Rattle.std.specs.Prelude.{Result, ◌==◌, ◌||◌}
use Rattle.folder_base.specs.Disk.{Name, Names}
use Rattle.folder_base.specs.Story.{World}
use Rattle.tool_chain.specs.Jobs.{job_of, is_output_of}
use Rattle.tool_chain.specs.Runs.{Bench}
use Rattle.tool_chain.specs.declared.job.ToolJob.{ToolJob}
use Rattle.job_plan.specs.declared.job.Job.{Job}
use Rattle.job_turn.specs.Clearing.{Clears, some_recorded, is_tidied_of}
use Rattle.job_turn.specs.Job.{steps_of, execs_of, names_of, is_alone}
use Rattle.job_turn.specs.Making.{Cleared, steps_in, execs_in, goes_behind as behind_frame, is_alone as is_alone_frame}
use Rattle.job_turn.specs.Family.{goes_behind}
use Rattle.job_turn.specs.Steps.{Finishes, Runs}
use Rattle.job_turn.specs.Turn.{IsFrameOf}
use Rattle.job_turn.specs.declared.end.Stop.{Stop}
use Rattle.job_turn.specs.declared.end.TurnFault.{TurnFault}
use Rattle.job_turn.specs.declared.frame.Frame.{Frame}
use Rattle.job_turn.specs.declared.settings.Settings.{Settings}
use Rattle.job_turn.proofs.ClearLemmas.{clears_as}

module _ (job : Job) (settings : Settings) (frame : Frame) (of : IsFrameOf job settings frame) where
  -- What is done by the frame is done for the job: its steps,
  pub finishes_of : {bench bench' : Bench} {old new : World} {result : Result (Unit {0}) Stop} → Finishes (steps_in frame) frame.final_name bench bench' old new result → Finishes (steps_of job) job.final_name bench bench' old new result
  finishes_of {bench} {bench'} {old} {new} {result} finishes =
      subst (λ (final : Name). Finishes (steps_of job) final bench bench' old new result) of.final_name
      (subst (λ (steps : List ToolJob). Finishes (map job_of steps) frame.final_name bench bench' old new result) of.steps finishes)

  -- its commands,
  pub runs_of : {bench bench' : Bench} {old new : World} {result : Result (Unit {0}) Stop} → Runs (length frame.steps.items) (execs_in frame) bench bench' old new result → Runs (length job.steps.items) (execs_of job) bench bench' old new result
  runs_of {bench} {bench'} {old} {new} {result} runs =
      subst (λ (execs : List ToolJob). Runs (length job.steps.items) (map job_of execs) bench bench' old new result) of.execs
      (subst (λ (steps : List ToolJob). Runs (length steps) (execs_in frame) bench bench' old new result) of.steps runs)

  -- and what is removed behind it.
  pub cleared_of : {old new : World} {result : Result (Unit {0}) TurnFault} → Cleared frame old new result → Clears (goes_behind settings.keep job old.story.now.live) old new result
  cleared_of {old} {new} {result} cleared = clears_as (behind_frame frame old) (goes_behind settings.keep job old.story.now.live) result (λ t n i.
      is_output_of (map job_of (of.steps i)) n || is_tidied_of (length (of.steps i) == 0) (of.keep i) old.story.now.live (of.components i) n) cleared.clears

  pub recorded_of : (live : Names) → some_recorded live frame.components.items ≡ some_recorded live (names_of job)
  recorded_of live = ap (some_recorded live) of.components

  pub alone_of : is_alone_frame frame ≡ is_alone job
  alone_of = ap (λ (steps : List ToolJob). length steps == 0) of.steps
