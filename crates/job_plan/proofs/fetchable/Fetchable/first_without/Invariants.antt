use Rattle.std.proofs.Common.{◌≡◌, List, not, drop}
use Rattle.std.specs.List.{position_from}
use Rattle.info_item.specs.Item.{Format}
use Rattle.job_pieces.specs.Pieces.{can_fetch}
use Rattle.job_plan.specs.Draft.{part_without_pieces}
use Rattle.job_plan.specs.Fetchable.{Told}
use Rattle.job_plan.proofs.fetchable.Fetchable.first_without.Given as goal

abbrev pub invariant-loop-part : goal.invariant-loop-part
invariant-loop-part l = record {
  told : (formats : List Format) → Told formats l.initial.self → Told formats l.self;
  none : (formats : List Format) → Told formats l.initial.self → position_from (λ place. not (can_fetch formats place)) l.part (drop l.part l.places) ≡ part_without_pieces formats l.places;
}
