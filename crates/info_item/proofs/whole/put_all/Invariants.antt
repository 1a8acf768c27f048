use Rattle.std.proofs.Common.{◌≡◌, drop}
use Rattle.info_item.specs.View as spec
use Rattle.info_item.proofs.whole.put_all.Given as goal

abbrev pub invariant-loop-place : goal.invariant-loop-place
invariant-loop-place l = spec.over l.pairs (drop l.place l.more) ≡ spec.over l.fn.pairs l.more
