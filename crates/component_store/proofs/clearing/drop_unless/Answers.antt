use Rattle.std.proofs.Common.{◌∙◌, ap, refl, Bool}
use Rattle.std.specs.Prelude.{bytes_eq, not, ◌&&◌}
use Rattle.folder_steps.proofs.RemovalLemmas.{thin_runs, unchanged}
use Rattle.component_store.proofs.clearing.drop_unless.Goals as goal

pub returns-in_err-drop_name-clause-moments : goal.returns-in_err-drop_name-clause-moments
returns-in_err-drop_name-clause-moments g c t =
    thin_runs (bytes_eq c.args.name.now) (λ n. not c.args.stays && bytes_eq c.args.name.now n) (λ n h. ap (λ (v : Bool). not v && bytes_eq c.args.name.now n) c.if-not-stays.true ∙ h) (unchanged _ refl) (c.drop_name.ensures.moments t)

pub returns-in_ok-drop_name-clause-moments : goal.returns-in_ok-drop_name-clause-moments
returns-in_ok-drop_name-clause-moments g c t =
    thin_runs (bytes_eq c.args.name.now) (λ n. not c.args.stays && bytes_eq c.args.name.now n) (λ n h. ap (λ (v : Bool). not v && bytes_eq c.args.name.now n) c.if-not-stays.true ∙ h) (unchanged _ refl) (c.drop_name.ensures.moments t)
