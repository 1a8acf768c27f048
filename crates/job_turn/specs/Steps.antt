-- What came of the steps that make a job's file, and of the commands that are run for it.
use Rattle.std.specs.Prelude.{◌≡◌, ℕ, IsTrue, List, Option, Some, None, Result, MatchResult, Ok, Err, OnOk, IfErr}
use Rattle.folder_base.specs.Disk.{Name, settled, renamed, synced}
use Rattle.folder_base.specs.Story.{World, Through, stands}
use Rattle.folder_base.specs.declared.store_fault.StoreFault.{StoreFault}
use Rattle.folder_base.specs.declared.store_fault.StoreFault.TheVariants as store
use Rattle.keep_store.specs.Publish.{Stays, IsBeforeOrMoved, MayRefuse, IsCalm}
use Rattle.tool_chain.specs.Chain.{Chains}
use Rattle.tool_chain.specs.Jobs.{Job as Command}
use Rattle.tool_chain.specs.Runs.{Bench}
use Rattle.tool_chain.specs.declared.fault.ToolFault.{ToolFault}
use Rattle.job_plan.specs.Laws.{last_output}
use Rattle.job_turn.specs.Ends.{chain_answer, final_answer}
use Rattle.job_turn.specs.declared.end.Stop.{Stop}

-- A file was given another name, in place of a file that had it; at each moment the new name has what it had, or the whole file.
pub record Publishes (from to : Name) (old new : World) (done : Result (Unit {0}) StoreFault) : Type 0 where
  pub stays : Stays old new
  pub refused : IfErr done (MayRefuse old new)
  pub calm : IsCalm old new done
  pub steady : IsTrue old.steady → IsTrue old.tells → stands old from → IfErr done (λ fault. fault ≡ store.OutOfMemory)
  pub moved : IsTrue new.tells → OnOk done (new.story.now ≡ settled (renamed from to (synced from old.story.now)))
  pub moments : IsTrue new.tells → Through old.story new.story (IsBeforeOrMoved from to old.story.now)

-- The output of the last step got the final name; without a step nothing was done.
abbrev pub IsNamed : Option Name → Name → World → World → Result (Unit {0}) Stop → Type 0
IsNamed None final old new result = (new ≡ old) × (result ≡ Ok tt)
IsNamed (Some output) final old new result = (done : Result (Unit {0}) StoreFault) × (Publishes output final old new done × (result ≡ final_answer done))

-- The steps were run, and where all went well the last output got the final name.
pub record Finishes (steps : List Command) (final : Name) (bench bench' : Bench) (old new : World) (result : Result (Unit {0}) Stop) : Type 0 where
  pub mid : World
  pub ran : Result (Unit {0}) ToolFault
  pub chains : Chains 0 steps bench bench' old mid ran
  pub named : MatchResult (chain_answer 0 ran) (λ _. IsNamed (last_output steps) final mid new result) (λ stop. (new ≡ mid) × (result ≡ Err stop))

-- The commands were run, the first of which has this number.
abbrev pub Runs : ℕ → List Command → Bench → Bench → World → World → Result (Unit {0}) Stop → Type 0
Runs first execs bench bench' old new result = (ran : Result (Unit {0}) ToolFault) × (Chains 0 execs bench bench' old new ran × (result ≡ chain_answer first ran))
