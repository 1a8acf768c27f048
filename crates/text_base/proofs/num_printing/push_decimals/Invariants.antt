use Rattle.std.proofs.Common.{◌≡◌, ◌≤◌, ◌<◌, ◌+◌, ◌^◌, ◌++◌, length}
use Rattle.text_base.specs.NumberText.{padded, trimmed}
use Rattle.text_base.proofs.num_printing.push_decimals.Given as goal

-- what is left of the count has this many places, and its decimals are still to be appended
abbrev pub invariant-loop-rest : goal.invariant-loop-rest
invariant-loop-rest l = record {
  some_left : 0 < l.places;
  few : l.places ≤ 9;
  below : l.rest < 10 ^ l.places;
  room : length l.text.bytes + l.places ≤ 40;
  same_text : l.text.bytes ++ trimmed (padded l.places l.rest) ≡ l.initial.text.bytes ++ trimmed (padded 9 l.initial.rest);
}

abbrev pub decreases-loop-rest : goal.decreases-loop-rest
decreases-loop-rest l = l.places
