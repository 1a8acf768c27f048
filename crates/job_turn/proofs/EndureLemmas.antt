-- That a folder endures what is done behind its components.
use Rattle.std.specs.Prelude.{ℕ, List, Option, Some, None, Result}
use Rattle.folder_base.specs.Disk.{Name}
use Rattle.folder_base.specs.Story.{World}
use Rattle.tool_chain.specs.Jobs.{Job as Command}
use Rattle.tool_chain.specs.Runs.{Bench}
use Rattle.component_turn.specs.Crew.{Endures}
use Rattle.component_turn.proofs.CrewLemmas.{endures_stays, endures_both}
use Rattle.job_plan.specs.Laws.{last_output}
use Rattle.job_turn.specs.Ends.{chain_answer}
use Rattle.job_turn.specs.Steps.{IsNamed, Finishes, Runs}
use Rattle.job_turn.specs.declared.end.Stop.{Stop}
use Rattle.job_turn.proofs.ApartLemmas.{at_answer, endures_none}

-- the last output's getting the final name,
pub named_endures : (output : Option Name) (final : Name) (old new : World) (result : Result (Unit {0}) Stop) → IsNamed output final old new result → Endures old new
named_endures None final old new result named = endures_none named.0
named_endures (Some output) final old new result named = endures_stays named.1.0.stays

-- the steps, and that,
pub finishes_endures : {steps : List Command} {final : Name} {bench bench' : Bench} {old new : World} {result : Result (Unit {0}) Stop} → Finishes steps final bench bench' old new result → Endures old new
finishes_endures {steps} {final} {bench} {bench'} {old} {new} {result} finishes =
    endures_both (endures_stays finishes.chains.spares.stays)
    (at_answer (chain_answer 0 finishes.ran) finishes.named (λ h. named_endures (last_output steps) final finishes.mid new result h) (λ stop h. endures_none h.0))

-- and the commands.
pub runs_endures : (first : ℕ) (execs : List Command) (bench bench' : Bench) (old new : World) (result : Result (Unit {0}) Stop) → Runs first execs bench bench' old new result → Endures old new
runs_endures first execs bench bench' old new result runs = endures_stays runs.1.0.spares.stays
