use Rattle.std.proofs.Common.{◌≡◌, ◌<◌, ◌⊎◌, inl, inr, ◌∙◌, ℕ, List, Option, length, map, ap, subst, rules, arith}
use Rattle.std.specs.Prelude.{All}
use Rattle.std.specs.Iterator.Adapters.{zip_first, zip_second}
use Rattle.std.specs.Slice.Iter.{iter_rest}
use Rattle.std.specs.Vec.Iter.{into_iter_items}
use Rattle.std.proofs.lemmas.Grind.{common_steps}
use Rattle.std.proofs.lemmas.List.Elements.{All-head, All-tail}
use Rattle.job_plan.specs.Jobs.{finished}
use Rattle.job_plan.specs.Laws.{EntryKept}
use Rattle.job_plan.specs.Passes.{all_settled, settled_entry}
use Rattle.job_plan.specs.Views.{plain_drafted, plain_entry}
use Rattle.job_plan.specs.declared.draft.Drafted.{Drafted}
use Rattle.job_plan.proofs.FinishLemmas.{next_made, all_made, next_kept, next_settled, none_settled}
use Rattle.job_plan.proofs.finishing.finished.Goals as goal

pub entry-requires : goal.entry-requires
entry-requires c =
    All-head (λ (d : Drafted). d.item < length c.args.items.now) c.in-Some.drafted (into_iter_items (zip_first c.next.new.self))
    (subst (All (λ (d : Drafted). d.item < length c.args.items.now)) c.in-Some.ensures.steps.0.0 c.loop-drafted.invariant.within)

pub loop-drafted-preserved : goal.loop-drafted-preserved
loop-drafted-preserved c =
    let later : List Drafted = into_iter_items (zip_first c.next.new.self) in
    let rest : List (Option ℕ) = iter_rest (zip_second c.next.new.self) in
    let old = c.loop-drafted.entries.items in
    record {
      made = next_made plain_entry (finished c.args.items.now (settled_entry (plain_drafted c.in-Some.drafted) c.in-Some.met.now)) old c.push.new.self.items c.in_ok-entry.field-0
          (map (finished c.args.items.now) (all_settled (map plain_drafted later) rest)) _ _ c.in_ok-push.ensures.items c.in_ok-entry.ensures.entry
          (ap (map (finished c.args.items.now)) (next_settled _ later _ rest c.in-Some.drafted c.in-Some.met.now c.in-Some.ensures.steps.0.0 c.in-Some.ensures.steps.1)) c.loop-drafted.invariant.made;
      kept = next_kept plain_entry EntryKept old c.push.new.self.items c.in_ok-entry.field-0 c.in_ok-push.ensures.items c.in_ok-entry.ensures.kept c.loop-drafted.invariant.kept;
      within = All-tail (λ (d : Drafted). d.item < length c.args.items.now) c.in-Some.drafted later
          (subst (All (λ (d : Drafted). d.item < length c.args.items.now)) c.in-Some.ensures.steps.0.0 c.loop-drafted.invariant.within);
    }

pub returns-clause-entries : goal.returns-clause-entries
returns-clause-entries c =
    let later : List Drafted = into_iter_items (zip_first c.loop-drafted.drafted-iterator) in
    let rest : List (Option ℕ) = iter_rest (zip_second c.loop-drafted.drafted-iterator) in
    let begun : into_iter_items (zip_first c.into_iter-drafted-iterator.result) ≡ c.args.drafts.items = first_of (search rules, grind (arith, common_steps)) in
    let given : iter_rest (zip_second c.into_iter-drafted-iterator.result) ≡ c.args.met.now = first_of (search rules, grind (arith, common_steps)) in
    let ended : (length later ≡ 0) ⊎ (length rest ≡ 0) = elim c.in-None.ensures.steps [ inl first ↦ inl (omega (arith, first.1.0)) | inr second ↦ inr (omega (arith, second.1.0)) ] in
    all_made plain_entry c.loop-drafted.entries.items (map (finished c.args.items.now) (all_settled (map plain_drafted later) rest)) _
    (ap (map (finished c.args.items.now)) (none_settled later rest ended)) c.loop-drafted.invariant.made
    ∙ ap (λ (l : List Drafted). map (finished c.args.items.now) (all_settled (map plain_drafted l) (iter_rest (zip_second c.into_iter-drafted-iterator.result)))) begun
    ∙ ap (λ (l : List (Option ℕ)). map (finished c.args.items.now) (all_settled (map plain_drafted c.args.drafts.items) l)) given
