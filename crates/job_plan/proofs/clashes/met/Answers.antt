use Rattle.std.proofs.Common.{◌≡◌, Some, None, ap, ◌∙◌}
use Rattle.std.specs.Prelude.{Ok, Err}
use Rattle.job_plan.specs.Passes.{log_of}
use Rattle.job_plan.specs.Draft.{draft_names}
use Rattle.job_plan.specs.Views.{plain_draft, plain_drafted, plain_outcome}
use Rattle.job_plan.proofs.ClashLemmas.{first_found, names_told, below_place, follows_fault, follows_met, follows_added}
use Rattle.job_plan.proofs.clashes.met.Goals as goal

pub returns-in_default-clause-index : goal.returns-in_default-clause-index
returns-in_default-clause-index c = λ earlier f.
    let is : c.args.entry.now.outcome ≡ Err c.in_default.field-0 = cc in
    follows_fault earlier (plain_drafted c.args.entry.now) c.in_default.field-0 c.args.place c.args.index.now (ap plain_outcome is) f

pub returns-in-Some-clause-index : goal.returns-in-Some-clause-index
returns-in-Some-clause-index c = λ earlier f.
    let is : c.args.entry.now.outcome ≡ Ok c.in-Ok.draft = cc in
    let met : Some c.in-Some.job ≡ c.first_met.result = cc in
    follows_met earlier (plain_drafted c.args.entry.now) c.args.place c.in-Some.job c.args.index.now
    (met ∙ first_found earlier c.args.entry.now c.in-Ok.draft c.requires is f c.deref.ensures.value c.deref-2.ensures.value c.first_met.ensures)
    f

pub returns-in-Some-clause-met : goal.returns-in-Some-clause-met
returns-in-Some-clause-met c = λ earlier f.
    let is : c.args.entry.now.outcome ≡ Ok c.in-Ok.draft = cc in
    let met : Some c.in-Some.job ≡ c.first_met.result = cc in
    met ∙ first_found earlier c.args.entry.now c.in-Ok.draft c.requires is f c.deref.ensures.value c.deref-2.ensures.value c.first_met.ensures

pub returns-clause-index : goal.returns-clause-index
returns-clause-index c = λ earlier f.
    let is : c.args.entry.now.outcome ≡ Ok c.in-Ok.draft = cc in
    let none : None ≡ c.first_met.result = cc in
    follows_added earlier (plain_drafted c.args.entry.now) (plain_draft c.in-Ok.draft) c.args.place c.args.index.now c.add.new.self (ap plain_outcome is)
    (none ∙ first_found earlier c.args.entry.now c.in-Ok.draft c.requires is f c.deref.ensures.value c.deref-2.ensures.value c.first_met.ensures)
    f
    (c.in_ok-add.ensures (log_of 0 earlier) (draft_names (plain_draft c.in-Ok.draft)) f.index_of (below_place earlier c.args.place c.args.index.now f)
    (c.deref-3.ensures.value ∙ names_told c.args.entry.now c.in-Ok.draft c.requires is) c.deref-4.ensures.value)

pub returns-clause-met : goal.returns-clause-met
returns-clause-met c = λ earlier f.
    let is : c.args.entry.now.outcome ≡ Ok c.in-Ok.draft = cc in
    let none : None ≡ c.first_met.result = cc in
    none ∙ first_found earlier c.args.entry.now c.in-Ok.draft c.requires is f c.deref.ensures.value c.deref-2.ensures.value c.first_met.ensures
