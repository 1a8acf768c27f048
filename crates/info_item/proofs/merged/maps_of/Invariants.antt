use Rattle.std.proofs.Common.{◌≡◌, map, take}
use Rattle.info_tree.specs.Plain.{plain}
use Rattle.info_item.proofs.merged.maps_of.Given as goal

abbrev pub invariant-loop-part : goal.invariant-loop-part
invariant-loop-part l = map (λ t. plain t.now) l.maps.items ≡ map (λ f. f.tree) (map (λ f. f.now) (take l.part-index l.part-items))
