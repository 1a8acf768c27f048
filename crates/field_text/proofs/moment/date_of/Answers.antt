use Rattle.std.proofs.Common.{arith, FitsSigned, w64, ◌∙◌, ◌+ℤ◌}
use Rattle.std.specs.Int.{w128}
use Rattle.std.proofs.lemmas.Int.{to_z-of_z}
use Rattle.jiff_core.specs.Calendar.{IsEpochDay}
use Rattle.jiff_core.specs.Date.{epoch_day}
use Rattle.jiff.proofs.SpanFacts.{signed_arith, date_add-days, can_add-days}
use Rattle.field_text.proofs.DateLemmas.{epoch_is_day_0, year_from_first, from_day_0}
use Rattle.field_text.proofs.moment.date_of.Goals as goal

pub unreachable-requires : goal.unreachable-requires
unreachable-requires c =
    let range : FitsSigned w128 c.args.day = c.ranges.day in
    let fits : FitsSigned w64 c.args.day = omega (arith, signed_arith) in
    let only = simp to_z-of_z at c.days.ensures in
    let zero = epoch_is_day_0 c.date.result c.date.ensures.0 (c.date.ensures.1) (c.date.ensures.2) in
    let can = can_add-days c.date.result c.args.day c.days.result only in
    let is_day : IsEpochDay (epoch_day c.date.result +ℤ c.args.day) = rw zero (omega (arith, signed_arith), omega (arith, signed_arith)) in
    let never = rw c.in-Err.is at (c.checked_add.ensures.succeeds.1 (can.1 is_day)) in
    absurd (cc never)

pub returns-clause-day : goal.returns-clause-day
returns-clause-day c =
    let range : FitsSigned w128 c.args.day = c.ranges.day in
    let fits : FitsSigned w64 c.args.day = omega (arith, signed_arith) in
    let only = simp to_z-of_z at c.days.ensures in
    let zero = epoch_is_day_0 c.date.result c.date.ensures.0 (c.date.ensures.1) (c.date.ensures.2) in
    c.in-Ok.ensures.value ∙ date_add-days c.date.result c.args.day c.days.result only ∙ from_day_0 (epoch_day c.date.result) c.args.day zero

pub returns-clause-year : goal.returns-clause-year
returns-clause-year c = year_from_first c.in-Ok.date (rw (returns-clause-day c) c.requires.low)
