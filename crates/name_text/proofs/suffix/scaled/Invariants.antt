use Rattle.std.proofs.Common.{◌≡◌, ◌⊎◌, ◌-◌, ◌/◌, ◌^◌, ◌≤◌}
use Rattle.name_text.proofs.suffix.scaled.Given as goal

-- the size is counted in this power of the factor, and reaches it unless it is the power 0
abbrev pub invariant-loop-power : goal.invariant-loop-power
invariant-loop-power l = record {
  few : l.power ≤ 5;
  counted : l.count ≡ l.size / l.factor ^ l.power;
  reached : (l.power ≡ 0) ⊎ (1 ≤ l.count);
}

abbrev pub decreases-loop-power : goal.decreases-loop-power
decreases-loop-power l = 5 - l.power
