use Rattle.std.proofs.Common.{length, map, ap, subst, arith}
use Rattle.std.proofs.lemmas.List.{length-map}
use Rattle.std.proofs.lemmas.Result.{on_ok_weaker}
use Rattle.sel_lang.specs.View.{plain}
use Rattle.sel_eval.specs.Answer.{plain_combo, is_large, IsFaultOf}
use Rattle.job_plan.specs.Views.{plain_drafting, plain_drafted}
use Rattle.job_plan.proofs.EntryLemmas.{adds_chosen, adds_too_many, few_added}
use Rattle.job_plan.proofs.FewLemmas.{few_combos}
use Rattle.job_plan.proofs.jobs.add_item.Goals as goal

pub add_some-requires : goal.add_some-requires
add_some-requires c =
    let options = c.args.drafting.now.options.now in
    omega (
      arith,
      c.requires,
      length-map c.in-Ok.choices.items plain_combo,
      ap length c.in-Ok.ensures.choices,
      few_combos options.streams c.args.item.now c.in_ok-order.order.items (plain options.sel) c.in-Ok.ensures.few,
    )

pub returns-in-Ok-clause-entries : goal.returns-in-Ok-clause-entries
returns-in-Ok-clause-entries c =
    on_ok_weaker c.add_some.result
    (λ added. record {
      order = c.in_ok-order.order.items;
      sorted = c.in_ok-order.ensures;
      adds = adds_chosen (plain_drafting c.args.drafting.now) c.args.place c.args.item.now c.in_ok-order.order.items (map plain_combo c.in-Ok.choices.items) _ _
          c.in-Ok.ensures.few c.in-Ok.ensures.choices added;
    }) c.add_some.ensures.entries

pub returns-in-Ok-clause-few : goal.returns-in-Ok-clause-few
returns-in-Ok-clause-few c =
    let place = c.args.place in
    let item = c.args.item.now in
    on_ok_weaker c.add_some.result
    (λ added. few_added plain_drafted (plain_drafting c.args.drafting.now) place item c.args.drafts.now.items c.add_some.new.drafts.items (record {
      order = c.in_ok-order.order.items;
      sorted = c.in_ok-order.ensures;
      adds = adds_chosen (plain_drafting c.args.drafting.now) place item c.in_ok-order.order.items (map plain_combo c.in-Ok.choices.items) _ _
          c.in-Ok.ensures.few c.in-Ok.ensures.choices added;
    })) c.add_some.ensures.entries

pub returns-in-Err-TooMany-clause-entries : goal.returns-in-Err-TooMany-clause-entries
returns-in-Err-TooMany-clause-entries c =
    on_ok_weaker c.push_fault.result
    (λ put. record {
      order = c.in_ok-order.order.items;
      sorted = c.in_ok-order.ensures;
      adds = adds_too_many (plain_drafting c.args.drafting.now) c.args.place c.args.item.now c.in_ok-order.order.items _ _ (subst (IsFaultOf (is_large (plain_drafting c.args.drafting.now).streams c.args.item.now c.in_ok-order.order.items (plain_drafting c.args.drafting.now).sel)) c.in-Err-TooMany.field-0-is c.in-Err-TooMany.ensures.many) put;
    }) c.push_fault.ensures.entries

pub returns-in-Err-TooMany-clause-few : goal.returns-in-Err-TooMany-clause-few
returns-in-Err-TooMany-clause-few c =
    let place = c.args.place in
    let item = c.args.item.now in
    on_ok_weaker c.push_fault.result
    (λ put. few_added plain_drafted (plain_drafting c.args.drafting.now) place item c.args.drafts.now.items c.push_fault.new.drafts.items (record {
      order = c.in_ok-order.order.items;
      sorted = c.in_ok-order.ensures;
      adds = adds_too_many (plain_drafting c.args.drafting.now) place item c.in_ok-order.order.items _ _ (subst (IsFaultOf (is_large (plain_drafting c.args.drafting.now).streams c.args.item.now c.in_ok-order.order.items (plain_drafting c.args.drafting.now).sel)) c.in-Err-TooMany.field-0-is c.in-Err-TooMany.ensures.many) put;
    })) c.push_fault.ensures.entries
