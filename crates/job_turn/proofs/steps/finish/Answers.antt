use Rattle.std.proofs.Common.{◌≡◌, map, refl}
use Rattle.std.specs.Prelude.{Err}
use Rattle.std.proofs.lemmas.Result.{err_from_is_err_and}
use Rattle.tool_chain.specs.Jobs.{job_of}
use Rattle.job_plan.specs.Laws.{last_output}
use Rattle.job_turn.specs.Steps.{IsNamed}
use Rattle.job_turn.specs.declared.end.Stop.{Stop}
use Rattle.job_turn.proofs.StopLemmas.{goes_on, stops}
use Rattle.job_turn.proofs.steps.finish.Goals as goal

pub returns-in_err-chain_answer : goal.returns-in_err-chain_answer
returns-in_err-chain_answer g c =
    let p = err_from_is_err_and c.from_residual.result c.from_residual.ensures.1 in
    let mid = g.F.Folder.world c.run_chain.new.folder in
    let stop = c.in_err-chain_answer.field-0.0 in
    rw (p.1, p.2) (record {
      mid = mid;
      ran = c.run_chain.result;
      chains = c.run_chain.ensures;
      named = stops (IsNamed (last_output (map job_of c.args.steps.now.items)) c.args.final_name.now mid mid (Err stop)) (λ (s : Stop). (mid ≡ mid) × (Err stop ≡ Err s)) stop c.in_err-chain_answer.ensures (refl, refl);
    })

pub returns : goal.returns
returns g c =
    let mid = g.F.Folder.world c.run_chain.new.folder in
    record {
      mid = mid;
      ran = c.run_chain.result;
      chains = c.run_chain.ensures;
      named = goes_on (λ (s : Stop). (g.F.Folder.world c.name_output.new.folder ≡ mid) × (c.name_output.result ≡ Err s)) c.in_ok-chain_answer.ensures c.name_output.ensures;
    }
