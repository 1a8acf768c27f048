use Rattle.std.specs.String.{string_bytes}
use Rattle.info_tree.specs.Plain.{plain}
use Rattle.field_text.specs.Plain as spec
use Rattle.field_text.proofs.ListLemmas.{listed_step}
use Rattle.field_text.proofs.listed.push_list.Goals as goal

pub loop-place-preserved : goal.loop-place-preserved
loop-place-preserved c =
    listed_step (spec.item_text c.args.item) c.args.between.now c.args.list.now c.loop-place.place (plain c.value_at.result.now) (string_bytes c.args.out.now) (string_bytes c.loop-place.out)
    (string_bytes c.push_between.new.out) (string_bytes c.push_item.new.out) c.value_at.ensures c.loop-place.invariant c.in_ok-push_between.ensures c.in_ok-push_item.ensures
