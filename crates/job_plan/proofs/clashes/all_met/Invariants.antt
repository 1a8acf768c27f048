use Rattle.std.proofs.Common.{◌≡◌, [], map, take}
use Rattle.job_plan.specs.Jobs.{all_behind}
use Rattle.job_plan.specs.Passes.{all_met, Follows}
use Rattle.job_plan.specs.Views.{plain_drafted}
use Rattle.job_plan.proofs.clashes.all_met.Given as goal

abbrev pub invariant-loop-place : goal.invariant-loop-place
invariant-loop-place l = record {
  follows : Follows (all_behind [] (take l.place (map plain_drafted l.entries))) l.place l.index;
  met : l.all.items ≡ all_met [] (take l.place (map plain_drafted l.entries));
}
