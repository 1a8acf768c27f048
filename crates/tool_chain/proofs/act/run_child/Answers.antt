use Rattle.std.proofs.Common.{◌≡◌, ◌⊎◌, ◌∙◌, ap, sym, inl, IsTrue}
use Rattle.std.specs.Prelude.{Some}
use Rattle.std.proofs.lemmas.Result.{err_from_is_err_and}
use Rattle.folder_base.specs.Story.{Story}
use Rattle.tool_chain.specs.Jobs.{job_of, leaves}
use Rattle.tool_chain.specs.Memory.{HasEnded}
use Rattle.tool_chain.proofs.StepLemmas.{spares_both, spares_looked}
use Rattle.tool_chain.proofs.MemoryLemmas.{has_ended, ended_starts, ended_failed}
use Rattle.tool_chain.proofs.act.run_child.Goals as goal

pub returns-in_err-inputs-clause-spares : goal.returns-in_err-inputs-clause-spares
returns-in_err-inputs-clause-spares g c = spares_looked _ c.read_inputs.ensures.looked

pub returns-in_err-end-clause-spares : goal.returns-in_err-end-clause-spares
returns-in_err-end-clause-spares g c = spares_both _ (spares_looked _ c.read_inputs.ensures.looked) c.end_of.ensures.spares

pub returns-in_err-end-clause-fed : goal.returns-in_err-end-clause-fed
returns-in_err-end-clause-fed g c =
    let fed = c.in_err-end.ensures.fed in
    let p = err_from_is_err_and c.from_residual-in_err-end.result c.from_residual-in_err-end.ensures.1 in
    rw p.1 (fed.1 ∙ c.in_ok-inputs.ensures.still fed.0)

pub returns-clause-spares : goal.returns-clause-spares
returns-clause-spares g c = spares_both _ (spares_looked _ c.read_inputs.ensures.looked) c.end_of.ensures.spares

pub returns-clause-run : goal.returns-clause-run
returns-clause-run g c =
    let old = g.F.Folder.world c.args.folder.now in
    let mid = g.F.Folder.world c.read_inputs.new.folder in
    let new = g.F.Folder.world c.end_of.new.folder in
    let back = c.end_of.ensures.spares.stays in
    let has : IsTrue new.tells → (c.in_ok-end.end.status ≡ Some 0) ⊎ IsTrue old.steady → HasEnded c.args.turn (job_of c.args.job.now) c.in_ok-inputs.inputs mid new c.in_ok-end.end =
    λ t why. has_ended c.in_ok-end.ensures.ended
    (λ s. let told = c.read_inputs.ensures.looked.stays.tells (back.tells t) in
    c.in_ok-end.ensures.steady (c.read_inputs.ensures.looked.stays.steady s) (back.tells t) (c.in_ok-inputs.ensures.steady s told)) why in
    record {
      job_is = c.in_ok-copy.ensures;
      read = λ t. c.in_ok-inputs.ensures.told (back.tells t);
      exact = λ t why. c.in_ok-inputs.ensures.exact (back.tells t) (has t why).are_read;
      left = λ t why. (has t why).left t;
      made = λ t zero left. let ended = has t (inl zero) in ended.made t zero (sym (ended.left t) ∙ left);
    }

pub returns-clause-starts : goal.returns-clause-starts
returns-clause-starts g c = ended_starts c.in_ok-end.ensures.ended

pub returns-clause-failed : goal.returns-clause-failed
returns-clause-failed g c = ended_failed c.in_ok-end.ensures.ended (g.F.Folder.world c.args.folder.now) c.in_ok-inputs.ensures.still

pub returns-clause-ends : goal.returns-clause-ends
returns-clause-ends g c s t can =
    let looked = c.read_inputs.ensures.looked in
    let t1 = looked.stays.still_tells t in
    let t2 = c.end_of.ensures.spares.stays.still_tells t1 in
    (c.in_ok-end.ensures.steady (looked.stays.steady s) t1 (c.in_ok-inputs.ensures.steady s t)).ends t2
    (ap (λ (s : Story). leaves (job_of c.args.job.now) s.now) (looked.same t1) ∙ can.free)
