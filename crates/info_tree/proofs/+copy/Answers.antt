use Rattle.std.proofs.Common.{◌≡◌, ◌*◌, ◌<◌, arith, rules}
use Rattle.std.specs.Prelude.{Some, None, slice_get}
use Rattle.std.proofs.lemmas.Option.{slice_get_past}
use Rattle.info_tree.specs.Tree.{tree_size}
use Rattle.info_tree.specs.Plain.{plain}
use Rattle.info_tree.proofs.Parts.{item_size, pair_size, next_item, next_pair, all_taken}
use Rattle.info_tree.proofs.+copy.Goals.{copy::copy_list-else-loop-place-test, copy::copy_list-then-loop-place-test+in_default, copy::copy_map-else-loop-place-test, copy::copy_map-then-loop-place-test+in_default}
use Rattle.info_tree.proofs.+copy.Goals as goal

pub copy::copy_list-copy-requires : goal.copy::copy_list-copy-requires
copy::copy_list-copy-requires c = λ a.
    let got : slice_get a.args.list.now a.loop-place.place ≡ Some (plain a.in-Some.tree.now) = search rules in
    let less : 2 * tree_size (plain a.in-Some.tree.now) < c = omega (arith, item_size a.args.list.now a.loop-place.place (plain a.in-Some.tree.now) got, a.decreases) in
    (less, tt)

pub copy::copy_list-loop-place-preserved : goal.copy::copy_list-loop-place-preserved
copy::copy_list-loop-place-preserved c = λ a.
    let got : slice_get a.args.list.now a.loop-place.place ≡ Some (plain a.in-Some.tree.now) = search rules in
    let same : plain a.in_ok-copy.field-0 ≡ plain a.in-Some.tree.now = a.in_ok-copy.ensures in
    rw (a.in_ok-push.ensures.ok, a.loop-place.invariant, same) (next_item a.args.list.now a.loop-place.place (plain a.in-Some.tree.now) got)

pub copy::copy_list-returns : goal.copy::copy_list-returns
copy::copy_list-returns c = λ a.
    let past : slice_get a.args.list.now a.loop-place.place ≡ None = elim a.loop-place-test.branch [
      | copy::copy_list-else-loop-place-test w ↦ slice_get_past a.args.list.now a.loop-place.place (search rules)
      | copy::copy_list-then-loop-place-test+in_default w ↦ search rules
    ] in
    rw a.loop-place.invariant (all_taken a.args.list.now a.loop-place.place past)

pub copy::copy_map-copy-requires : goal.copy::copy_map-copy-requires
copy::copy_map-copy-requires c = λ a.
    let got : slice_get a.args.map.now a.loop-place.place ≡ Some (a.in-Some.key.now, plain a.in-Some.tree.now) = search rules in
    let less : 2 * tree_size (plain a.in-Some.tree.now) < c = omega (arith, pair_size a.args.map.now a.loop-place.place (a.in-Some.key.now, plain a.in-Some.tree.now) got, a.decreases) in
    (less, tt)

pub copy::copy_map-loop-place-preserved : goal.copy::copy_map-loop-place-preserved
copy::copy_map-loop-place-preserved c = λ a.
    let got : slice_get a.args.map.now a.loop-place.place ≡ Some (a.in-Some.key.now, plain a.in-Some.tree.now) = search rules in
    let same : plain a.in_ok-copy.field-0 ≡ plain a.in-Some.tree.now = a.in_ok-copy.ensures in
    let key : a.in_ok-new.field-0 ≡ a.in-Some.key.now = a.in_ok-new.ensures in
    rw (a.in_ok-put.ensures.ok, a.loop-place.invariant, key, same)
    (next_pair a.args.map.now a.loop-place.place (a.in-Some.key.now, plain a.in-Some.tree.now) a.len-place-end.ensures.distinct got)

pub copy::copy_map-returns : goal.copy::copy_map-returns
copy::copy_map-returns c = λ a.
    let past : slice_get a.args.map.now a.loop-place.place ≡ None = elim a.loop-place-test.branch [
      | copy::copy_map-else-loop-place-test w ↦ slice_get_past a.args.map.now a.loop-place.place (search rules)
      | copy::copy_map-then-loop-place-test+in_default w ↦ search rules
    ] in
    rw a.loop-place.invariant (all_taken a.args.map.now a.loop-place.place past)
