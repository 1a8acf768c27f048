use Rattle.std.proofs.Common.{◌≡◌, ℕ, List, subst}
use Rattle.std.specs.Prelude.{IfOk}
use Rattle.job_pieces.proofs.UrlLemmas.{kept_is, kept_not}
use Rattle.job_pieces.proofs.urls.kept_url.Goals as goal

pub returns-in-Some-clause-text : goal.returns-in-Some-clause-text
returns-in-Some-clause-text c =
    subst (λ (t : List ℕ). IfOk c.printed_url.result (λ made. made ≡ t)) (kept_is c.args.text.now c.in-Some.url c.in_ok-url.field-0 c.in-Some.is c.in_ok-url.ensures) c.printed_url.ensures.text

pub returns-in-None-clause-text : goal.returns-in-None-clause-text
returns-in-None-clause-text c =
    subst (λ (t : List ℕ). IfOk c.new.result (λ made. made ≡ t)) (kept_not c.args.text.now c.in_ok-url.field-0 c.in-None.is c.in_ok-url.ensures) c.new.ensures
