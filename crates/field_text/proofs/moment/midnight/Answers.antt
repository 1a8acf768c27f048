use Rattle.std.proofs.Common.{arith, ◌∙◌, ap, Some, w8, w16}
use Rattle.std.proofs.lemmas.Int.{to_z_pos}
use Rattle.field_text.proofs.DateLemmas.{a_day, no_year, no_day}
use Rattle.field_text.proofs.moment.midnight.Goals as goal

pub returns-then-year-eq0 : goal.returns-then-year-eq0
returns-then-year-eq0 c = no_year c.args.year c.args.month c.args.day c.if-year-eq0.true

pub returns-in-Ok : goal.returns-in-Ok
returns-in-Ok c =
    let h = c.in-Ok.ensures.value in
    let year = to_z_pos w16 c.args.year (omega arith) in
    let month = to_z_pos w8 c.args.month (omega arith) in
    let day = to_z_pos w8 c.args.day (omega arith) in
    ap Some c.on_date.ensures ∙ a_day c.args.year c.args.month c.args.day c.in-Ok.date (h.0 ∙ year) (h.1 ∙ month) (h.2 ∙ day) (omega arith) (omega arith)

pub returns-in-Err : goal.returns-in-Err
returns-in-Err c =
    let year = to_z_pos w16 c.args.year (omega arith) in
    let month = to_z_pos w8 c.args.month (omega arith) in
    let day = to_z_pos w8 c.args.day (omega arith) in
    no_day c.args.year c.args.month c.args.day (λ is. let never = rw c.in-Err.is at (c.new.ensures.succeeds.1 (rw (year, month, day) is)) in absurd (cc never))
