use Rattle.std.proofs.Common.{◌≤◌, ◌*◌, map, take, length}
use Rattle.std.specs.Prelude.{All}
use Rattle.job_plan.specs.Passes.{AreEntries}
use Rattle.job_plan.specs.Views.{plain_plan, plain_drafted, HasNames}
use Rattle.job_plan.proofs.jobs.all_drafts.Given as goal

abbrev pub invariant-loop-place : goal.invariant-loop-place
invariant-loop-place l = record {
  entries : AreEntries (plain_plan l.options) (take l.place l.items) (map plain_drafted l.drafts.items);
  few : length l.drafts.items ≤ 10000 * l.place;
  exact : All HasNames l.drafts.items;
}
