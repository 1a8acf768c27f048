use Rattle.std.proofs.Common.{◌≡◌, ◌++◌, drop, map}
use Rattle.job_plan.specs.Views.{plain_entry}
use Rattle.ytdl_core.specs.Chunks.{script_of}
use Rattle.ytdl_core.specs.Lines.{said}
use Rattle.ytdl_core.specs.Report.{simulated_end}
use Rattle.ytdl_core.proofs.lines.chunks.Given as goal

abbrev pub invariant-loop-entry : goal.invariant-loop-entry
invariant-loop-entry l =
    let rest = map plain_entry (drop l.entry-index l.entries) in
    said l.quiet (map plain_entry l.entries) (map simulated_end (map plain_entry l.entries))
    ≡ script_of l.chunks.items ++ said l.quiet rest (map simulated_end rest)
