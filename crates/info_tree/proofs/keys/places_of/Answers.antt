use Rattle.std.proofs.Common.{◌<◌, length, rules}
use Rattle.info_tree.proofs.KeyLemmas.{tells_next}
use Rattle.info_tree.proofs.keys.places_of.Goals as goal

pub loop-place-preserved : goal.loop-place-preserved
loop-place-preserved c =
    let low : c.loop-place.place < length c.args.texts.now.items = search rules in
    tells_next c.loop-place.places c.insert.new.self c.args.texts.now.items c.loop-place.place c.text-item.result c.in_ok-from_str.field-0
    low (search rules) (search rules) c.requires c.loop-place.invariant c.in_ok-insert.ensures.updates
