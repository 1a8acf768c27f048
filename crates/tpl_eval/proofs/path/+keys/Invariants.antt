use Rattle.std.proofs.Common.{◌≡◌, ◌≤◌, ◌+◌, ◌*◌, length, map, take}
use Rattle.std.specs.List.{filter_map}
use Rattle.info_tree.specs.Plain.{plain}
use Rattle.info_item.specs.Found.{tree_of}
use Rattle.tpl_eval.specs.Path as spec
use Rattle.tpl_eval.proofs.path.+keys.Given as goal

abbrev pub decreases-at_keys : goal.decreases-at_keys
decreases-at_keys l = 4 * length l.keys.now

abbrev pub decreases-key_step : goal.decreases-key_step
decreases-key_step l = 4 * length l.rest.now + 3

abbrev pub decreases-slice_step : goal.decreases-slice_step
decreases-slice_step l = 4 * length l.rest.now + 2

abbrev pub decreases-list_slice : goal.decreases-list_slice
decreases-list_slice l = 4 * length l.keys.now + 1

-- what stands at the keys that are left of what was found is what stands at all of the first
abbrev pub invariant-at_keys-loop-key : goal.invariant-at_keys-loop-key
invariant-at_keys-loop-key l =
    (spec.at_keys l.left (tree_of l.found) ≡ spec.at_keys l.keys (tree_of l.fn.first)) × (length l.left ≤ length l.keys)

abbrev pub decreases-at_keys-loop-key : goal.decreases-at_keys-loop-key
decreases-at_keys-loop-key l = length l.left

-- what stands at the further keys of the items so far
abbrev pub invariant-list_slice-loop-item : goal.invariant-list_slice-loop-item
invariant-list_slice-loop-item l = l.told ≡ filter_map (spec.at_keys l.keys) (map (λ t. plain t.now) (take l.item-index l.item-items))
