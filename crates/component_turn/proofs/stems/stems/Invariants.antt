use Rattle.std.proofs.Common.{◌≡◌, ◌≤◌, ◌+◌, length, vec_capacity}
use Rattle.std.specs.String.{string_capacity}
use Rattle.component_turn.specs.Plan.{stems_from}
use Rattle.component_turn.proofs.stems.stems.Given as goal

abbrev pub invariant-loop-piece : goal.invariant-loop-piece
invariant-loop-piece l = record {
  made : l.stems.items ≡ stems_from l.component 0 l.piece;
  room : l.count ≤ vec_capacity l.stems;
  name_room : length l.component + 52 ≤ string_capacity l.stem;
}
