use Rattle.std.proofs.Common.{◌==◌, ◌∙◌, ℕ, Bool, ap, refl, subst}
use Rattle.std.specs.Prelude.{Ok, Err}
use Rattle.std.proofs.lemmas.Result.{err_from_is_err_and}
use Rattle.job_turn.specs.Components.{Makes}
use Rattle.job_turn.proofs.ApartLemmas.{made_endures}
use Rattle.job_turn.proofs.turn.make.Goals as goal

pub complete-requires-clause-whole : goal.complete-requires-clause-whole
complete-requires-clause-whole g c t =
    let endures = made_endures g.D.Dialer.wire c.is_empty-is_final.result c.args.settings 0 c.args.components.items (g.F.Folder.world c.args.folder.now) (g.F.Folder.world c.make_all.new.folder) c.make_all.result c.args.dialers.now.items c.make_all.new.dialers.items c.make_all.ensures.made.told c.make_all.ensures.made.made in
    endures.whole t (c.requires.whole (endures.tells t))

pub returns-in_err-make_all-clause-works : goal.returns-in_err-make_all-clause-works
returns-in_err-make_all-clause-works g c =
    let p = err_from_is_err_and c.from_residual.result c.from_residual.ensures.1 in
    let stop = c.in_err-make_all.field-0.0 in
    rw (p.1, p.2) (record {
      mid = g.F.Folder.world c.make_all.new.folder;
      made = Err stop;
      makes = subst (λ (b : Bool). Makes g.D.Dialer.wire b c.args.settings 0 c.args.components.items (g.F.Folder.world c.args.folder.now) (g.F.Folder.world c.make_all.new.folder) (Err stop) c.args.dialers.now.items c.make_all.new.dialers.items)
          (c.is_empty-is_final.ensures ∙ ap (λ (n : ℕ). n == 0) c.args.frame.now.steps.ok.0) c.in_err-make_all.ensures.made;
      behind = (refl, refl, refl);
    })

pub returns-clause-works : goal.returns-clause-works
returns-clause-works g c = record {
  mid = g.F.Folder.world c.make_all.new.folder;
  made = Ok tt;
  makes = subst (λ (b : Bool). Makes g.D.Dialer.wire b c.args.settings 0 c.args.components.items (g.F.Folder.world c.args.folder.now) (g.F.Folder.world c.make_all.new.folder) (Ok tt) c.args.dialers.now.items c.make_all.new.dialers.items)
      (c.is_empty-is_final.ensures ∙ ap (λ (n : ℕ). n == 0) c.args.frame.now.steps.ok.0) c.in_ok-make_all.ensures.made;
  behind = c.complete.ensures;
}
