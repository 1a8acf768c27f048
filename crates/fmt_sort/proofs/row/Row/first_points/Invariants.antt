use Rattle.std.proofs.Common.{◌≡◌, drop, map}
use Rattle.fmt_sort.specs.Rows.{fits, first_points, places, with_points}
use Rattle.fmt_sort.proofs.row.Row.first_points.Given as goal

-- the text fits no name so far
abbrev pub invariant-loop-name : goal.invariant-loop-name
invariant-loop-name l =
    first_points (fits l.is_whole l.text) (with_points (places l.fn.self l.free))
    ≡ first_points (fits l.is_whole l.text) (drop l.name-index (map (λ e. (e.0.now, e.1)) l.name-items))
