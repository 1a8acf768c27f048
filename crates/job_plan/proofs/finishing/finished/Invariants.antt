use Rattle.std.proofs.Common.{◌≡◌, ◌<◌, ◌++◌, map, length}
use Rattle.std.specs.Prelude.{All}
use Rattle.std.specs.Iterator.Adapters.{zip_first, zip_second}
use Rattle.std.specs.Slice.Iter.{iter_rest}
use Rattle.std.specs.Vec.Iter.{into_iter_items}
use Rattle.job_plan.specs.Jobs.{finished}
use Rattle.job_plan.specs.Laws.{AllKept}
use Rattle.job_plan.specs.Passes.{all_settled}
use Rattle.job_plan.specs.Views.{plain_drafted, plain_entry}
use Rattle.job_plan.proofs.finishing.finished.Given as goal

abbrev pub invariant-loop-drafted : goal.invariant-loop-drafted
invariant-loop-drafted l = record {
  made : map plain_entry l.entries.items
      ++ map (finished l.items) (all_settled (map plain_drafted (into_iter_items (zip_first l.drafted-iterator))) (iter_rest (zip_second l.drafted-iterator)))
      ≡ map (finished l.items) (all_settled (map plain_drafted (into_iter_items (zip_first l.initial.drafted-iterator))) (iter_rest (zip_second l.initial.drafted-iterator)));
  kept : AllKept (map plain_entry l.entries.items);
  within : All (λ d. d.item < length l.items) (into_iter_items (zip_first l.drafted-iterator));
}
