use Rattle.std.proofs.Common.{refl}
use Rattle.std.specs.Prelude.{Ok, Err}
use Rattle.std.proofs.lemmas.Result.{err_from_is_err_and}
use Rattle.job_turn.proofs.EndureLemmas.{finishes_endures}
use Rattle.job_turn.proofs.closing.complete.Goals as goal

pub close-requires-clause-whole : goal.close-requires-clause-whole
close-requires-clause-whole g c t =
    let made = finishes_endures c.finish.ensures in
    made.whole t (c.requires.whole (made.tells t))

pub returns-in_err-finish : goal.returns-in_err-finish
returns-in_err-finish g c =
    let p = err_from_is_err_and c.from_residual.result c.from_residual.ensures.1 in
    rw (p.1, p.2) (record {
      mid = g.F.Folder.world c.finish.new.folder;
      bench_mid = g.T.Tools.bench c.finish.new.tools;
      made = Err c.in_err-finish.field-0.0;
      finishes = c.in_err-finish.ensures;
      behind = (refl, refl, refl);
    })

pub returns : goal.returns
returns g c = record { mid = g.F.Folder.world c.finish.new.folder; bench_mid = g.T.Tools.bench c.finish.new.tools; made = Ok tt; finishes = c.in_ok-finish.ensures; behind = c.close.ensures }
