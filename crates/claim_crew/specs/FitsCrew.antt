-- What workers share, and a seat at its table.
use Rattle.std.specs.Prelude.{◌≡◌, length}
use Rattle.atomic_table.specs.declared.shared.Seat.{Seat}
use Rattle.claim_crew.specs.declared.rule.Progress.{Progress}
use Rattle.claim_crew.specs.declared.crew.Crew.{Crew}

-- the seat is one at the table of the crew, which has two words and a slot for each item
pub record FitsCrew {T H W : Type 0} (crew : Crew T H W) (seat : Seat T (Progress T)) : Type 0 where
  pub id : seat.table_id ≡ crew.table.now.table_id
  pub words : crew.table.now.table_id.words ≡ 2
  pub slots : length crew.table.now.key.items.value.items ≡ crew.table.now.table_id.slots
  pub count : crew.count ≡ crew.table.now.table_id.slots
