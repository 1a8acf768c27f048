use Rattle.std.proofs.Common.{◌≡◌, take}
use Rattle.std.specs.List.{flat_map}
use Rattle.std.specs.String.{string_bytes}
use Rattle.tpl_eval.specs.Dates as spec
use Rattle.tpl_eval.proofs.date.shown.Given as goal

-- the parts so far are shown
abbrev pub invariant-loop-part : goal.invariant-loop-part
invariant-loop-part l = string_bytes l.out ≡ flat_map (spec.date_part l.moment) (take l.part-index l.part-items)
