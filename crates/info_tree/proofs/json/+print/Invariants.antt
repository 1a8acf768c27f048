use Rattle.std.proofs.Common.{◌≡◌, ◌+◌, ◌*◌, ◌++◌, [], take}
use Rattle.std.specs.String.{string_bytes}
use Rattle.info_tree.specs.Tree.{trees_of, pairs_of, tree_size, trees_size, pairs_size}
use Rattle.info_tree.specs.Plain.{plain}
use Rattle.info_tree.specs.Printed.{items, members}
use Rattle.info_tree.specs.ReadsAgain.{AreSound, HaveSound}
use Rattle.info_tree.proofs.Printing.{items_from, members_from}
use Rattle.info_tree.proofs.json.+print.Given as goal

abbrev pub decreases-push_tree : goal.decreases-push_tree
decreases-push_tree l = 2 * tree_size (plain l.tree.now)

abbrev pub decreases-push_list : goal.decreases-push_list
decreases-push_list l = 2 * trees_size (trees_of l.list.now) + 1

abbrev pub decreases-push_map : goal.decreases-push_map
decreases-push_map l = 2 * pairs_size (pairs_of l.map.now) + 1

-- with the items from this place on, all items are out; those before it are sound
abbrev pub invariant-push_list-loop-place : goal.invariant-push_list-loop-place
invariant-push_list-loop-place l = record {
  out : string_bytes l.out ++ items_from l.style (string_bytes l.inner) l.list l.place
      ≡ string_bytes l.initial.out ++ items l.style (string_bytes l.inner) [] (trees_of l.list);
  sound : AreSound (trees_of (take l.place l.list));
}

-- with the pairs from this place on, all pairs are out; those before it are sound
abbrev pub invariant-push_map-loop-place : goal.invariant-push_map-loop-place
invariant-push_map-loop-place l = record {
  out : string_bytes l.out ++ members_from l.style (string_bytes l.inner) l.map l.place
      ≡ string_bytes l.initial.out ++ members l.style (string_bytes l.inner) [] (pairs_of l.map);
  sound : HaveSound (pairs_of (take l.place l.map));
}
