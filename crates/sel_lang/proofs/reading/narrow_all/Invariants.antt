use Rattle.std.proofs.Common.{◌≡◌, map}
use Rattle.std.specs.Vec.Iter.{into_iter_items}
use Rattle.sel_lang.specs.Plain.{plain_filter, narrowed}
use Rattle.sel_lang.specs.View.{plain}
use Rattle.sel_lang.proofs.reading.narrow_all.Given as goal

-- narrowed by the filters that are left it is what it is to be
abbrev pub invariant-loop-filter : goal.invariant-loop-filter
invariant-loop-filter l =
    narrowed (plain l.sel) (map plain_filter (into_iter_items l.filter-iterator))
    ≡ narrowed (plain l.initial.sel) (map plain_filter (into_iter_items l.initial.filter-iterator))
