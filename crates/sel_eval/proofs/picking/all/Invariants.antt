use Rattle.std.proofs.Common.{◌≡◌, ◌≤◌, take, map, filter}
use Rattle.std.specs.Vec.{vec_len}
use Rattle.sel_eval.specs.Picks.{alone}
use Rattle.sel_eval.specs.Placed.{has_stream}
use Rattle.sel_eval.proofs.picking.all.Given as goal

abbrev pub invariant-loop-placed : goal.invariant-loop-placed
invariant-loop-placed l =
    (l.choices.items ≡ map alone (filter has_stream (take l.placed-index l.formats))) × (vec_len l.choices ≤ 10000)
