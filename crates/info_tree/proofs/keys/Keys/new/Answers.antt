use Rattle.std.specs.List.{IsDistinct}
use Rattle.info_tree.proofs.Places.{none_not_some}
use Rattle.info_tree.proofs.keys.Keys.new.Goals as goal

pub invariant_of-result : goal.invariant_of-result
unfolding IsDistinct
invariant_of-result c = rw c.new.ensures.items (tt, λ x e. absurd (none_not_some e))
