use Rattle.std.proofs.Common.{◌≡◌, ◌∙◌, inr, ℕ, sym, ap, refl, subst}
use Rattle.std.specs.Prelude.{Option, Ok, Err, is_none, unwrap_or}
use Rattle.text_base.specs.declared.faults.FolderFault.TheVariants.{Failed}
use Rattle.tool_chain.specs.Jobs.{job_of}
use Rattle.tool_chain.specs.Memory.{EndsBy, Answers, fails_start}
use Rattle.tool_chain.specs.declared.turn.ToolTurn.{ToolTurn}
use Rattle.tool_chain.proofs.StepLemmas.{never}
use Rattle.tool_chain.proofs.MemoryLemmas.{never_starts, works_good, hides_status, hides_failed, answers_status, answers_none, answers_unfed}
use Rattle.tool_chain.proofs.memory.ToolsMemTools.run.Goals as goal

pub returns-in-Some-clause-works : goal.returns-in-Some-clause-works
returns-in-Some-clause-works g c = λ works s t can.
    let done = works_good c.args.self.now.script.items _ (job_of c.args.job.now) _ c.in-Ok.run'.status
    (subst (λ (turn : ToolTurn). EndsBy turn (job_of c.args.job.now) (g.F.Folder.world c.run_child.new.folder).story.now c.in-Ok.run'.status) c.turn-turn.ensures (c.in-Ok.ensures.ends s t can)) works in
    let is : c.in-Some.status ≡ 0 = ap (λ (o : Option ℕ). unwrap_or o 0) (sym c.in-Some.is ∙ done.0) in
    inr ((λ i. Ok (is i)), done.1)

pub returns-in-None-clause-starts : goal.returns-in-None-clause-starts
returns-in-None-clause-starts g c = record {
  keeps = record { tells = λ h. h; still_tells = λ h. h; steady = λ h. h; works = λ h. h; make = refl; later = c.rise.ensures.later };
  rose = λ _. c.rise.ensures.rose;
  calm = λ none. absurd (none refl);
  never = λ steady _. never_starts c.args.self.now.script.items _ c.in-Ok.run'.status (subst (λ (turn : ToolTurn). is_none c.in-Ok.run'.status ≡ fails_start turn) c.turn-turn.ensures c.in-Ok.ensures.starts) c.in-None.is steady;
}

pub returns-in-None-clause-works : goal.returns-in-None-clause-works
returns-in-None-clause-works g c = λ works s t can.
    let done = works_good c.args.self.now.script.items _ (job_of c.args.job.now) _ c.in-Ok.run'.status
    (subst (λ (turn : ToolTurn). EndsBy turn (job_of c.args.job.now) (g.F.Folder.world c.run_child.new.folder).story.now c.in-Ok.run'.status) c.turn-turn.ensures (c.in-Ok.ensures.ends s t can)) works in
    absurd (never (sym (ap (λ (o : Option ℕ). is_none o) c.in-None.is) ∙ ap (λ (o : Option ℕ). is_none o) done.0))

pub returns-in-Some-clause-hides : goal.returns-in-Some-clause-hides
returns-in-Some-clause-hides g c = hides_status (g.F.Folder.world c.args.folder.now) (g.F.Folder.world c.run_child.new.folder) c.turn-turn.result c.in-Ok.run'.status c.in-Some.status c.in-Some.is c.in-Ok.ensures.failed

pub returns-in-None-clause-hides : goal.returns-in-None-clause-hides
returns-in-None-clause-hides g c = hides_failed (g.F.Folder.world c.args.folder.now) (g.F.Folder.world c.run_child.new.folder)

pub returns-in_default-clause-hides : goal.returns-in_default-clause-hides
returns-in_default-clause-hides g c why = c.in_default.ensures.fed

pub returns-then-is_err-clause-answers : goal.returns-then-is_err-clause-answers
returns-then-is_err-clause-answers g c = answers_unfed _ (job_of c.args.job.now) refl

pub returns-in_default-clause-answers : goal.returns-in_default-clause-answers
returns-in_default-clause-answers g c = answers_unfed _ (job_of c.args.job.now) c.in_default.ensures.fed

pub returns-in-Some-clause-answers : goal.returns-in-Some-clause-answers
returns-in-Some-clause-answers g c =
    let old = g.F.Folder.world c.args.folder.now in
    let new = g.F.Folder.world c.run_child.new.folder in
    subst (λ (turn : ToolTurn). Answers turn (job_of c.args.job.now) old new (Ok c.in-Some.status)) c.turn-turn.ensures
    (answers_status c.turn-turn.result (job_of c.args.job.now) new.story.now c.in-Ok.run'.status c.in-Ok.ensures.starts c.in-Ok.ensures.ends c.in-Some.status c.in-Some.is c.in-Ok.ensures.failed)

pub returns-in-None-clause-answers : goal.returns-in-None-clause-answers
returns-in-None-clause-answers g c =
    let old = g.F.Folder.world c.args.folder.now in
    let new = g.F.Folder.world c.run_child.new.folder in
    subst (λ (turn : ToolTurn). Answers turn (job_of c.args.job.now) old new (Err Failed)) c.turn-turn.ensures
    (answers_none c.turn-turn.result (job_of c.args.job.now) new.story.now c.in-Ok.run'.status c.in-Ok.ensures.starts c.in-Ok.ensures.ends c.in-None.is)
