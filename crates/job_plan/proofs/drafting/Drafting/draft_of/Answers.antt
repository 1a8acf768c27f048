use Rattle.std.proofs.Common.{◌≡◌, ◌∙◌, ℕ, List, Option, map, ap, subst, Bor}
use Rattle.info_item.specs.Item.{Format}
use Rattle.info_item.specs.View.{parts_of}
use Rattle.info_item.specs.declared.format.Format.{Format as HeldFormat}
use Rattle.name_text.specs.Clean.{cleaned}
use Rattle.sel_eval.specs.Answer.{plain_combo}
use Rattle.job_plan.specs.Draft.{Draft, chosen_parts}
use Rattle.job_plan.specs.Outcome.{GivesSome}
use Rattle.job_plan.specs.Views.{plain_drafting, plain_draft, plain_named}
use Rattle.job_plan.specs.declared.fault.JobFault.TheVariants.{Fill}
use Rattle.job_plan.proofs.DraftLemmas.{draft_is}
use Rattle.job_plan.proofs.drafting.Drafting.draft_of.Goals as goal

pub returns-clause-draft : goal.returns-clause-draft
returns-clause-draft c =
    let parts : map (λ (f : Bor HeldFormat). f.now) c.in_ok-parts.parts.items ≡ chosen_parts c.args.item.now (plain_combo c.args.combo) =
    c.in_ok-parts.ensures ∙ ap (λ (l : List Format). parts_of l c.deref-2.result.now) (c.deref.ensures.value ∙ c.formats.ensures)
    ∙ ap (λ (l : List ℕ). parts_of c.args.item.now.formats l) c.deref-2.ensures.value in
    subst (λ (d : Option Draft). GivesSome plain_draft c.draft_of_name.result d Fill)
    (draft_is (plain_drafting c.args.self.now) c.args.number c.args.item.now (plain_combo c.args.combo) _ _ _ _ _ _ (plain_named c.in_ok-named.named) c.in_ok-view.ensures c.in_ok-view.ensures
    (ap (map (λ (f : Bor HeldFormat). f.now)) c.deref-3.ensures.value ∙ parts) (ap (map (λ (f : Bor HeldFormat). f.now)) c.deref-4.ensures.value ∙ parts) c.as_str-2.ensures
    (c.as_str-3.ensures ∙ c.in_ok-ext.ensures ∙ ap (cleaned c.args.self.now.options.now.restricted) c.as_str.ensures) c.in_ok-named.ensures)
    c.draft_of_name.ensures.draft
