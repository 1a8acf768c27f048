use Rattle.std.proofs.Common.{◌≡◌, map, take}
use Rattle.info_tree.specs.Plain.{plain}
use Rattle.info_item.proofs.merged.list_of.Given as goal

abbrev pub invariant-loop-map : goal.invariant-loop-map
invariant-loop-map l = l.copies ≡ map (λ t. plain t.now) (take l.map-index l.map-items)
