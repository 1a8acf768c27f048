use Rattle.std.proofs.Common.{◌≡◌, map, length}
use Rattle.std.specs.Prelude.{option_map, string_bytes}
use Rattle.ytdl_stub.specs.Job.{joined}
use Rattle.ytdl_stub.proofs.JobLemmas.{with_inputs}
use Rattle.ytdl_stub.proofs.job.joining_of.Given as goal

abbrev pub invariant-words : goal.invariant-words
invariant-words l =
    joined (map string_bytes l.words) ≡ option_map (with_inputs (map (λ name. name.now) l.inputs.items)) (joined (map string_bytes l.rest))

abbrev pub decreases-words : goal.decreases-words
decreases-words l = length l.rest
