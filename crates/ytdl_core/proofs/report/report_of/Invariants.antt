use Rattle.std.proofs.Common.{◌≡◌, ◌++◌, drop, map}
use Rattle.job_plan.specs.Views.{plain_entry}
use Rattle.ytdl_core.specs.Report.{simulated_end}
use Rattle.ytdl_core.proofs.report.report_of.Given as goal

abbrev pub invariant-loop-entry : goal.invariant-loop-entry
invariant-loop-entry l =
    map simulated_end (map plain_entry l.entries) ≡ l.ends.items ++ map simulated_end (map plain_entry (drop l.entry-index l.entries))
