use Rattle.std.proofs.Common.{◌≡◌, take}
use Rattle.info_item.specs.View as spec
use Rattle.info_item.proofs.whole.others.Given as goal

abbrev pub invariant-loop-place : goal.invariant-loop-place
invariant-loop-place l = l.copied ≡ spec.others (take l.place l.pairs)
