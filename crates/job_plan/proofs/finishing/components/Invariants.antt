use Rattle.std.proofs.Common.{◌≡◌, ◌++◌, map}
use Rattle.std.specs.Prelude.{All}
use Rattle.std.specs.Iterator.Adapters.{zip_first, zip_second}
use Rattle.std.specs.Slice.Iter.{iter_rest}
use Rattle.std.specs.Vec.Iter.{into_iter_items}
use Rattle.job_pieces.specs.Kept.{AreKept}
use Rattle.job_pieces.specs.Views.{plain_component}
use Rattle.job_plan.specs.Jobs.{components_of}
use Rattle.job_plan.proofs.finishing.components.Given as goal

abbrev pub invariant-loop-name : goal.invariant-loop-name
invariant-loop-name l = record {
  made : map plain_component l.components.items ++ components_of (into_iter_items (zip_first l.name-iterator)) (map (λ f. f.now) (iter_rest (zip_second l.name-iterator)))
      ≡ components_of (into_iter_items (zip_first l.initial.name-iterator)) (map (λ f. f.now) (iter_rest (zip_second l.initial.name-iterator)));
  kept : All AreKept (map plain_component l.components.items);
}
