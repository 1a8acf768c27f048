use Rattle.std.proofs.Common.{◌≡◌, ◌<◌, List, length, map, ap, subst, sym, arith}
use Rattle.std.proofs.lemmas.List.{take_all}
use Rattle.info_item.specs.Item.{Item}
use Rattle.job_plan.specs.Plan.{Plan, Entry}
use Rattle.job_plan.specs.Draft.{Draft}
use Rattle.job_plan.specs.Passes.{AddsItem, AreEntries}
use Rattle.job_plan.specs.Views.{plain_plan, plain_drafted}
use Rattle.job_plan.proofs.EntryLemmas.{entries_more, are_within, all_seen}
use Rattle.job_plan.proofs.jobs.all_drafts.Goals as goal

pub add_item-requires : goal.add_item-requires
add_item-requires c =
    let same : c.in_ok-drafting.drafting.options.now.first_number ≡ c.args.options.now.first_number = ap (λ (p : Plan). p.first_number) c.in_ok-drafting.ensures in
    omega (arith, c.requires, same, c.loop-place.invariant.few)

pub loop-place-preserved : goal.loop-place-preserved
loop-place-preserved c =
    let plan = plain_plan c.args.options.now in
    let item = c.index-items-place.result in
    let old = map plain_drafted c.loop-place.drafts.items in
    let new = map plain_drafted c.add_item.new.drafts.items in
    let added : AddsItem plan c.loop-place.place item old new =
    subst (λ (p : Plan). AddsItem p c.loop-place.place item old new) c.in_ok-drafting.ensures c.in_ok-add_item.ensures.entries in
    record {
      entries = entries_more plan c.args.items.now c.loop-place.place item old new (omega arith) (sym c.index-items-place.is) c.loop-place.invariant.entries added;
      few = omega (arith, c.in_ok-add_item.ensures.few, c.loop-place.invariant.few);
      exact = c.in_ok-add_item.ensures.exact c.loop-place.invariant.exact;
    }

pub returns-clause-entries : goal.returns-clause-entries
returns-clause-entries c =
    subst (λ (l : List Item). AreEntries (plain_plan c.args.options.now) l (map plain_drafted c.loop-place.drafts.items)) (take_all c.loop-place.place c.args.items.now (omega arith))
    c.loop-place.invariant.entries

pub returns-clause-within : goal.returns-clause-within
returns-clause-within c =
    all_seen plain_drafted (λ (e : Entry Draft). e.item < length c.args.items.now) c.loop-place.drafts.items
    (are_within (plain_plan c.args.options.now) c.args.items.now (map plain_drafted c.loop-place.drafts.items)
    (subst (λ (l : List Item). AreEntries (plain_plan c.args.options.now) l (map plain_drafted c.loop-place.drafts.items)) (take_all c.loop-place.place c.args.items.now (omega arith))
    c.loop-place.invariant.entries))
