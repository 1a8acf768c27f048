use Rattle.std.proofs.Common.{◌≡◌, ◌+◌, ◌∙◌, ◌++◌, ◌∷◌, [], ℕ, List, length, map, ap, sym, subst, length-append, rules, arith}
use Rattle.std.specs.Prelude.{All, Ok}
use Rattle.std.specs.Vec.Iter.{into_iter_items}
use Rattle.std.proofs.lemmas.Grind.{common_steps}
use Rattle.std.proofs.lemmas.List.{map_push, length-map}
use Rattle.std.proofs.lemmas.List.Elements.{All-push}
use Rattle.info_item.specs.declared.combo.Combo.{Combo}
use Rattle.sel_eval.specs.Answer.{plain_combo}
use Rattle.job_plan.specs.Jobs.{entries_of}
use Rattle.job_plan.specs.Views.{plain_drafting, plain_drafted, plain_outcome, HasNames}
use Rattle.job_plan.specs.declared.draft.Drafted.{Drafted}
use Rattle.job_plan.proofs.EntryLemmas.{combo_added, all_added}
use Rattle.job_plan.proofs.jobs.add_choices.Goals as goal

pub loop-combo-preserved : goal.loop-combo-preserved
loop-combo-preserved c =
    let plan = plain_drafting c.args.drafting.now in
    let first : ℕ = c.args.drafting.now.options.now.first_number in
    let old : List Drafted = c.loop-combo.drafts.items in
    let new : List Drafted = c.push.new.self.items in
    let one : Drafted = record { item = c.args.place; outcome = c.in_ok-outcome.outcome } in
    let later : List Combo = into_iter_items c.next.new.self in
    let more : length new ≡ length old + 1 = ap length c.in_ok-push.ensures.items ∙ length-append old (one ∷ []) in
    record {
      told = c.drafted-drafted.ensures.told;
      entries = combo_added plan (first + length old) _ (first + length new) c.args.place c.args.item.now (plain_combo c.in-Some.combo) (map plain_combo later) (map plain_drafted old) (map plain_drafted new)
          _ (plain_outcome c.in_ok-outcome.outcome) (ap (λ (n : ℕ). first + n) (c.len.ensures ∙ c.loop-combo.drafts.ok.0)) (omega (arith, more)) (c.in_ok-outcome.ensures.outcome _ c.drafted-drafted.ensures.draft)
          (ap (map plain_drafted) c.in_ok-push.ensures.items ∙ map_push plain_drafted old one)
          (ap (λ (l : List Combo). map plain_drafted old ++ entries_of plan (first + length old) c.args.place c.args.item.now (map Ok (map plain_combo l))) (sym c.in-Some.ensures.steps.0)
          ∙ c.loop-combo.invariant.entries);
      few = omega (arith, more, ap length c.in-Some.ensures.steps.0, c.loop-combo.invariant.few);
      exact = λ names.
          subst (All HasNames) (sym c.in_ok-push.ensures.items) (All-push HasNames old one (c.loop-combo.invariant.exact names) (c.in_ok-outcome.ensures.exact c.drafted-drafted.ensures.exact));
    }

pub returns-clause-entries : goal.returns-clause-entries
returns-clause-entries c =
    let plan = plain_drafting c.args.drafting.now in
    let first : ℕ = c.args.drafting.now.options.now.first_number in
    let new : List Drafted = c.loop-combo.drafts.items in
    let old : List Drafted = c.args.drafts.now.items in
    let none : into_iter_items c.loop-combo.combo-iterator ≡ [] = first_of (search rules, grind (arith, common_steps)) in
    let begun : into_iter_items c.into_iter-combo-iterator.result ≡ c.args.choices.items = first_of (search rules, grind (arith, common_steps)) in
    all_added plan first c.args.place c.args.item.now (map plain_combo (into_iter_items c.loop-combo.combo-iterator)) (map plain_combo c.args.choices.items) (map plain_drafted old) (map plain_drafted new)
    (first + length new) (first + length old) (ap (map plain_combo) none) (ap (λ (n : ℕ). first + n) (sym (length-map old plain_drafted)))
    (c.loop-combo.invariant.entries ∙ ap (λ (l : List Combo). map plain_drafted old ++ entries_of plan (first + length old) c.args.place c.args.item.now (map Ok (map plain_combo l))) begun)
