use Rattle.std.proofs.Common.{ℕ, refl, subst, arith}
use Rattle.std.specs.Prelude.{Ok, Err}
use Rattle.std.proofs.lemmas.Result.{err_from_is_err_and}
use Rattle.job_turn.specs.Making.{execs_in}
use Rattle.job_turn.specs.Steps.{Runs}
use Rattle.job_turn.proofs.EndureLemmas.{runs_endures}
use Rattle.job_turn.proofs.closing.close.Goals as goal

pub clear-requires-clause-whole : goal.clear-requires-clause-whole
clear-requires-clause-whole g c t =
    let ran = runs_endures c.len.result (execs_in c.args.frame.now) (g.T.Tools.bench c.args.tools.now) (g.T.Tools.bench c.run_execs.new.tools) (g.F.Folder.world c.args.folder.now) (g.F.Folder.world c.run_execs.new.folder) c.run_execs.result c.run_execs.ensures in
    ran.whole t (c.requires.whole (ran.tells t))

pub returns-in_err-run_execs : goal.returns-in_err-run_execs
returns-in_err-run_execs g c =
    let p = err_from_is_err_and c.from_residual.result c.from_residual.ensures.1 in
    let stop = c.in_err-run_execs.field-0.0 in
    rw (p.1, p.2) (record {
      mid = g.F.Folder.world c.run_execs.new.folder;
      ran = Err stop;
      runs = subst (λ (n : ℕ). Runs n (execs_in c.args.frame.now) (g.T.Tools.bench c.args.tools.now) (g.T.Tools.bench c.run_execs.new.tools) (g.F.Folder.world c.args.folder.now) (g.F.Folder.world c.run_execs.new.folder) (Err stop)) (omega (arith, c.len.ensures, c.args.frame.now.steps.ok.0)) c.in_err-run_execs.ensures;
      behind = (refl, refl);
    })

pub returns : goal.returns
returns g c = record {
  mid = g.F.Folder.world c.run_execs.new.folder;
  ran = Ok tt;
  runs = subst (λ (n : ℕ). Runs n (execs_in c.args.frame.now) (g.T.Tools.bench c.args.tools.now) (g.T.Tools.bench c.run_execs.new.tools) (g.F.Folder.world c.args.folder.now) (g.F.Folder.world c.run_execs.new.folder) (Ok tt)) (omega (arith, c.len.ensures, c.args.frame.now.steps.ok.0)) c.in_ok-run_execs.ensures;
  behind = (c.clear.result, c.clear.ensures, c.cleared_answer.ensures);
}
