-- The frame of a job that is ready is fit.
use Rattle.std.proofs.Common.{◌≡◌, true, false, List, map, sym, subst}
use Rattle.std.specs.Prelude.{All, None}
use Rattle.folder_base.specs.Disk.{Name}
use Rattle.tool_chain.specs.Jobs.{job_of, is_output_of, OutputsApart}
use Rattle.tool_chain.specs.declared.job.ToolJob.{ToolJob}
use Rattle.job_plan.specs.declared.job.Job.{Job}
use Rattle.job_turn.specs.Clearing.{is_of_some, AreNamesApart}
use Rattle.job_turn.specs.Job.{IsReady}
use Rattle.job_turn.specs.Making.{IsFit}
use Rattle.job_turn.specs.Turn.{IsFrameOf}
use Rattle.job_turn.specs.declared.frame.Frame.{Frame}
use Rattle.job_turn.specs.declared.settings.Settings.{Settings}

pub fit_of : (job : Job) (settings : Settings) (frame : Frame) → IsFrameOf job settings frame → IsReady job → IsFit frame
fit_of job settings frame of ready = record {
  components = subst AreNamesApart (sym of.components) ready.apart.components;
  outputs = λ name is. subst (λ (names : List Name). is_of_some names name ≡ false) (sym of.components)
      (ready.apart.outputs name (subst (λ (steps : List ToolJob). is_output_of (map job_of steps) name ≡ true) of.steps is));
  apart = subst (λ (steps : List ToolJob). OutputsApart (map job_of steps)) (sym of.steps) ready.whole.apart;
  silent = subst (λ (execs : List ToolJob). All (λ exec. exec.output ≡ None) (map job_of execs)) (sym of.execs) ready.silent;
}
