use Rattle.std.proofs.Common.{◌∙◌, ◌+◌, ◌∷◌, [], List, map, drop, refl, arith, sym, subst}
use Rattle.std.specs.Prelude.{Ok, Err}
use Rattle.std.proofs.lemmas.Result.{err_from_is_err_and}
use Rattle.folder_base.proofs.Disjoint.{so_left}
use Rattle.folder_base.specs.declared.store_fault.StoreFault.{StoreFault}
use Rattle.folder_steps.proofs.RefusalLemmas.{err_later}
use Rattle.keep_store.specs.TookLaws.{stays_both}
use Rattle.tool_chain.specs.Jobs.{Job, job_of, is_output, is_output_of}
use Rattle.tool_chain.specs.declared.job.ToolJob.{ToolJob}
use Rattle.tool_chain.proofs.ChainLemmas.{jobs_from, jobs_end}
use Rattle.job_turn.specs.Clearing.{Clears}
use Rattle.job_turn.proofs.ClearLemmas.{clears_none, clears_stop, clears_next}
use Rattle.job_turn.proofs.clearing.drop_outputs.Goals as goal

pub returns-in_err-drop_output-clause-cleared : goal.returns-in_err-drop_output-clause-cleared
returns-in_err-drop_output-clause-cleared g c =
    let p = err_from_is_err_and c.from_residual.result c.from_residual.ensures.1 in
    let all = c.deref-step-items.result.now in
    let fault = c.in_err-drop_output.field-0.0 in
    let behind = map job_of (drop (c.loop-step.step-index + 1) all) in
    let here = jobs_from all c.loop-step.step-index c.step-item.result (omega arith) c.step-item.is in
    rw (p.1, p.2) (subst (λ (l : List ToolJob). Clears {E = StoreFault} (is_output_of (map job_of l)) (g.F.Folder.world c.args.folder.now) (g.F.Folder.world c.drop_output.new.folder) (Err fault)) c.deref-step-items.ensures.value
    (c.loop-step.invariant.rest _ (Err fault)
    (subst (λ (jobs : List Job). Clears {E = StoreFault} (is_output_of jobs) (g.F.Folder.world c.loop-step.folder) (g.F.Folder.world c.drop_output.new.folder) (Err fault)) (sym here)
    (clears_stop {E = StoreFault} (is_output (job_of c.step-item.result)) (is_output_of (job_of c.step-item.result ∷ behind)) fault fault (λ n goes. so_left _ (is_output_of behind n) goes) c.in_err-drop_output.ensures.cleared))))

pub returns-in_err-drop_output-clause-blames : goal.returns-in_err-drop_output-clause-blames
returns-in_err-drop_output-clause-blames g c =
    let p = err_from_is_err_and c.from_residual.result c.from_residual.ensures.1 in
    rw (p.1, p.2) (err_later c.loop-step.invariant.kept c.loop-step.invariant.calm c.in_err-drop_output.ensures.blames)

pub loop-step-preserved : goal.loop-step-preserved
loop-step-preserved g c =
    let all = c.deref-step-items.result.now in
    let behind = map job_of (drop (c.loop-step.step-index + 1) all) in
    let here = jobs_from all c.loop-step.step-index c.step-item.result (omega arith) c.step-item.is in
    record {
      kept = stays_both c.loop-step.invariant.kept c.in_ok-drop_output.ensures.cleared.stays;
      calm = c.in_ok-drop_output.ensures.blames.calm ∙ c.loop-step.invariant.calm;
      rest = λ world result clears. c.loop-step.invariant.rest world result
          (subst (λ (jobs : List Job). Clears {E = StoreFault} (is_output_of jobs) (g.F.Folder.world c.loop-step.folder) world result) (sym here)
          (clears_next {E = StoreFault} (is_output (job_of c.step-item.result)) (is_output_of behind) result c.in_ok-drop_output.ensures.cleared clears));
    }

pub returns-clause-cleared : goal.returns-clause-cleared
returns-clause-cleared g c =
    let all = c.deref-step-items.result.now in
    subst (λ (l : List ToolJob). Clears {E = StoreFault} (is_output_of (map job_of l)) (g.F.Folder.world c.args.folder.now) (g.F.Folder.world c.loop-step.folder) (Ok tt)) c.deref-step-items.ensures.value
    (c.loop-step.invariant.rest _ (Ok tt)
    (subst (λ (jobs : List Job). Clears {E = StoreFault} (is_output_of jobs) (g.F.Folder.world c.loop-step.folder) (g.F.Folder.world c.loop-step.folder) (Ok tt)) (sym (jobs_end all c.loop-step.step-index (omega arith)))
    (clears_none {E = StoreFault} (is_output_of []) (g.F.Folder.world c.loop-step.folder) (λ n. refl))))
