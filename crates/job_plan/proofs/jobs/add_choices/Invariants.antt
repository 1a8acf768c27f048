use Rattle.std.proofs.Common.{◌≡◌, ◌+◌, ◌++◌, map, length}
use Rattle.std.specs.Prelude.{All, Ok}
use Rattle.std.specs.Vec.Iter.{into_iter_items}
use Rattle.sel_eval.specs.Answer.{plain_combo}
use Rattle.job_plan.specs.Fetchable.{Told}
use Rattle.job_plan.specs.Jobs.{entries_of}
use Rattle.job_plan.specs.Views.{plain_drafting, plain_drafted, HasNames}
use Rattle.job_plan.proofs.jobs.add_choices.Given as goal

abbrev pub invariant-loop-combo : goal.invariant-loop-combo
invariant-loop-combo l = record {
  told : Told l.item.formats l.fetchable;
  entries : map plain_drafted l.drafts.items
      ++ entries_of (plain_drafting l.drafting) (l.drafting.options.now.first_number + length l.drafts.items) l.place l.item (map Ok (map plain_combo (into_iter_items l.combo-iterator)))
      ≡ map plain_drafted l.initial.drafts.items
      ++ entries_of (plain_drafting l.drafting) (l.drafting.options.now.first_number + length l.initial.drafts.items) l.place l.item (map Ok (map plain_combo (into_iter_items l.initial.combo-iterator)));
  few : length l.drafts.items + length (into_iter_items l.combo-iterator) ≡ length l.initial.drafts.items + length (into_iter_items l.initial.combo-iterator);
  exact : All HasNames l.initial.drafts.items → All HasNames l.drafts.items;
}
