use Rattle.std.proofs.Common.{◌≡◌, ℕ, ◌-◌, ◌<◌, ◌≤◌, take, false, get_or, vec_capacity}
use Rattle.claim_crew.specs.Closing.{AreFull}
use Rattle.claim_crew.proofs.claims.collect.Given as goal

abbrev pub invariant-loop-at : goal.invariant-loop-at
invariant-loop-at g l = record {
  filled : AreFull l.closed.slots.filled l.at l.closed.slots.len;
  moved : (k : ℕ) → k < l.at → get_or l.closed.slots.filled k false ≡ false;
  within : l.at ≤ l.closed.slots.len;
  count : l.count ≡ l.closed.slots.len;
  same : (l.closed.slots.items ≡ l.fn.closed.slots.items) × (l.closed.slots.len ≡ l.fn.closed.slots.len);
  items : l.out.items ≡ take l.at l.closed.slots.items;
  room : vec_capacity l.out ≡ vec_capacity l.fn.out;
}

abbrev pub decreases-loop-at : goal.decreases-loop-at
decreases-loop-at g l = l.count - l.at
