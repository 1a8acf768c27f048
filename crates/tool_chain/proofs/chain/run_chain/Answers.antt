use Rattle.std.proofs.Common.{◌+◌, List, map, drop, arith, sym, subst}
use Rattle.std.specs.Prelude.{Ok, Err}
use Rattle.std.proofs.lemmas.Result.{err_from_is_err_and}
use Rattle.keep_store.specs.TookLaws.{stays_both}
use Rattle.tool_chain.specs.Jobs.{Job, job_of, OutputsApart}
use Rattle.tool_chain.specs.Chain.{Chains}
use Rattle.tool_chain.specs.declared.job.ToolJob.{ToolJob}
use Rattle.tool_chain.proofs.ChainLemmas.{chain_none, chain_stop, chain_next, apart_head, apart_at, jobs_from, jobs_end}
use Rattle.tool_chain.proofs.chain.run_chain.Goals as goal

pub run_step-requires-clause-apart : goal.run_step-requires-clause-apart
run_step-requires-clause-apart g c =
    let all = c.deref-job-items.result.now in
    let apart = subst (λ (l : List ToolJob). OutputsApart (map job_of l)) (sym c.deref-job-items.ensures.value) c.requires.apart in
    apart_head (job_of c.job-item.result) (map job_of (drop (c.loop-step.step + 1) all))
    (subst OutputsApart (jobs_from all c.loop-step.step c.job-item.result (omega arith) c.job-item.is) (apart_at all c.loop-step.step apart))

pub returns-in_err-run_step : goal.returns-in_err-run_step
returns-in_err-run_step g c =
    let p = err_from_is_err_and c.from_residual.result c.from_residual.ensures.1 in
    let all = c.deref-job-items.result.now in
    let fault = c.in_err-run_step.field-0.0 in
    let here = jobs_from all c.loop-step.step c.job-item.result (omega arith) c.job-item.is in
    rw (p.1, p.2) (subst (λ (l : List ToolJob). Chains 0 (map job_of l) (g.T.Tools.bench c.args.tools.now) (g.T.Tools.bench c.run_step.new.tools) (g.F.Folder.world c.args.folder.now) (g.F.Folder.world c.run_step.new.folder) (Err fault))
    c.deref-job-items.ensures.value
    (c.loop-step.invariant.rest _ _ (Err fault)
    (subst (λ (jobs : List Job). Chains c.loop-step.step jobs (g.T.Tools.bench c.loop-step.tools) (g.T.Tools.bench c.run_step.new.tools) (g.F.Folder.world c.loop-step.folder) (g.F.Folder.world c.run_step.new.folder) (Err fault))
    (sym here) (chain_stop c.loop-step.step (job_of c.job-item.result) (map job_of (drop (c.loop-step.step + 1) all)) _ _ _ _ fault c.in_err-run_step.ensures))))

pub loop-step-preserved : goal.loop-step-preserved
loop-step-preserved g c =
    let all = c.deref-job-items.result.now in
    let here = jobs_from all c.loop-step.step c.job-item.result (omega arith) c.job-item.is in
    let apart = subst (λ (l : List ToolJob). OutputsApart (map job_of l)) (sym c.deref-job-items.ensures.value) c.requires.apart in
    record {
      kept = stays_both c.loop-step.invariant.kept c.run_step.ensures.spares.stays;
      rest = λ bench world result chain. c.loop-step.invariant.rest bench world result
          (subst (λ (jobs : List Job). Chains c.loop-step.step jobs (g.T.Tools.bench c.loop-step.tools) bench (g.F.Folder.world c.loop-step.folder) world result) (sym here)
          (chain_next c.loop-step.step (job_of c.job-item.result) (map job_of (drop (c.loop-step.step + 1) all)) result
          (subst OutputsApart here (apart_at all c.loop-step.step apart)) c.in_ok-run_step.ensures chain));
    }

pub returns : goal.returns
returns g c =
    let all = c.deref-job-items.result.now in
    subst (λ (l : List ToolJob). Chains 0 (map job_of l) (g.T.Tools.bench c.args.tools.now) (g.T.Tools.bench c.loop-step.tools) (g.F.Folder.world c.args.folder.now) (g.F.Folder.world c.loop-step.folder) (Ok tt))
    c.deref-job-items.ensures.value
    (c.loop-step.invariant.rest _ _ (Ok tt)
    (subst (λ (jobs : List Job). Chains c.loop-step.step jobs (g.T.Tools.bench c.loop-step.tools) (g.T.Tools.bench c.loop-step.tools) (g.F.Folder.world c.loop-step.folder) (g.F.Folder.world c.loop-step.folder) (Ok tt))
    (sym (jobs_end all c.loop-step.step (omega arith))) (chain_none c.loop-step.step (g.T.Tools.bench c.loop-step.tools) (g.F.Folder.world c.loop-step.folder))))
