use Rattle.std.proofs.Common.{◌≡◌, ◌∷◌, [], List, rules, arith}
use Rattle.std.proofs.lemmas.Grind.{common_steps}
use Rattle.std.specs.Vec.Iter.{into_iter_items}
use Rattle.sel_eval.specs.Placed.{Placed}
use Rattle.sel_eval.specs.Den.{Choices}
use Rattle.sel_eval.proofs.MergingLemmas.{spread_more, spread_done}
use Rattle.sel_eval.proofs.merging.spread.Goals as goal

pub loop-row-preserved : goal.loop-row-preserved
loop-row-preserved c =
    let row : List Placed = c.in-Some.row in
    let later : Choices = into_iter_items c.next.new.self in
    let next_is : into_iter_items c.loop-row.row-iterator ≡ row ∷ later = first_of (search rules, grind (arith, common_steps)) in
    spread_more c.args.streams.now c.args.choices.now c.loop-row.all.items _ _ later _ row c.in_ok-add_rows.ensures next_is c.loop-row.invariant

pub returns : goal.returns
returns c =
    let ended : into_iter_items c.loop-row.row-iterator ≡ [] = first_of (search rules, grind (arith, common_steps)) in
    let begun : into_iter_items c.into_iter-row-iterator.result ≡ c.args.rows.items = first_of (search rules, grind (arith, common_steps)) in
    rw begun at (spread_done c.args.streams.now c.args.choices.now c.loop-row.all.items _ _ ended c.loop-row.invariant)
