use Rattle.std.proofs.Common.{◌≡◌, ℕ, List, false, sym, subst, ◌∙◌, arith}
use Rattle.std.specs.List.{list_any}
use Rattle.job_names.specs.Family.{in_family}
use Rattle.job_names.specs.Index.{has_piece_of, first_with}
use Rattle.job_names.proofs.IndexLemmas.{met_more, met_all, none_first}
use Rattle.job_names.proofs.index.NameIndex.first_met.Goals as goal

pub loop-name-init : goal.loop-name-init
loop-name-init c = λ log is. sym (none_first log)

pub loop-name-preserved : goal.loop-name-preserved
loop-name-preserved c = λ log is.
    let key : c.as_bytes.result.now ≡ c.name-item.result = cc in
    c.least-first.ensures
    ∙ met_more (λ earlier. false) in_family c.loop-name.first c.name_at.result log c.args.exact.now c.loop-name.name-index c.name-item.result c.loop-name-test.true is.ascending (c.loop-name.invariant log is)
    (subst (λ (t : List ℕ). c.name_at.result ≡ first_with (λ names. in_family names t) log) (key ∙ c.name-item.is) (c.name_at.ensures log is))

pub loop-component-preserved : goal.loop-component-preserved
loop-component-preserved c = λ log is.
    let key : c.as_bytes-in-loop-component.result.now ≡ c.component-item.result = cc in
    c.least-first-in-loop-component.ensures
    ∙ met_more (λ earlier. list_any (in_family earlier) c.args.exact.now) (λ earlier component. has_piece_of component earlier) c.loop-component.first c.place_of.result log c.args.components.now
    c.loop-component.component-index c.component-item.result c.loop-component-test.true is.ascending (c.loop-component.invariant log is)
    (subst (λ (t : List ℕ). c.place_of.result ≡ first_with (has_piece_of t) log) (key ∙ c.component-item.is) (c.place_of.ensures ∙ is.under c.as_bytes-in-loop-component.result.now))

pub returns : goal.returns
returns c = λ log names is exact components.
    met_all c.loop-component.first log c.args.exact.now c.args.components.now names c.loop-component.component-index exact components
    (omega (arith, c.loop-component-test.false, c.loop-component.auto.component-index-end)) (c.loop-component.invariant log is)
