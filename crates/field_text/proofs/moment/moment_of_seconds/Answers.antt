use Rattle.std.proofs.Common.{◌<ℤ◌, ◌≤ℤ◌, arith, ◌∙◌, sym, ap, rules, Some, inl, inr, pos, neg_ℤ, FitsSigned}
use Rattle.std.specs.Int.{w128}
use Rattle.std.proofs.lemmas.Int.{to_z-of_z}
use Rattle.jiff_core.proofs.SignedLemmas.{signed_arith}
use Rattle.field_text.specs.Dates.{day_of}
use Rattle.field_text.proofs.DateLemmas.{no_moment, a_moment}
use Rattle.field_text.proofs.moment.moment_of_seconds.Goals as goal
use Rattle.field_text.proofs.moment.moment_of_seconds.Goals.{then-day-lt-FIRST_DAY-via-then-day-lt-FIRST_DAY, then-day-lt-FIRST_DAY-via-else-day-lt-FIRST_DAY+then-day-gt-LAST_DAY}
use borrow.Author.Differences.{up, down}

pub returns-then-day-lt-FIRST_DAY : goal.returns-then-day-lt-FIRST_DAY
returns-then-day-lt-FIRST_DAY c =
    let fits : FitsSigned w128 c.day_of-day.result = search rules in
    elim c.then-day-lt-FIRST_DAY.branch [
      | then-day-lt-FIRST_DAY-via-then-day-lt-FIRST_DAY w ↦
          let early : day_of c.args.seconds <ℤ neg_ℤ (pos 719162) = omega (arith, signed_arith, ap up c.day_of-day.ensures, ap down c.day_of-day.ensures) in
          sym (no_moment c.args.seconds (inl early))
      | then-day-lt-FIRST_DAY-via-else-day-lt-FIRST_DAY+then-day-gt-LAST_DAY w ↦
          let late : pos 2932896 <ℤ day_of c.args.seconds = omega (arith, signed_arith, ap up c.day_of-day.ensures, ap down c.day_of-day.ensures) in
          sym (no_moment c.args.seconds (inr late))
    ]

pub returns : goal.returns
returns c =
    let fits : FitsSigned w128 c.day_of-day.result = search rules in
    let inside : FitsSigned w128 c.args.seconds = c.ranges.seconds in
    let back = to_z-of_z w128 c.args.seconds inside in
    let e = c.date_of.ensures.day ∙ to_z-of_z w128 c.day_of-day.result fits ∙ c.day_of-day.ensures ∙ ap day_of back in
    let low : neg_ℤ (pos 719162) ≤ℤ day_of c.args.seconds = omega (arith, signed_arith, ap up c.day_of-day.ensures, ap down c.day_of-day.ensures) in
    let high : day_of c.args.seconds ≤ℤ pos 2932896 = omega (arith, signed_arith, ap up c.day_of-day.ensures, ap down c.day_of-day.ensures) in
    ap Some (rw back at (rw c.second_of.ensures.value at c.on_date.ensures)) ∙ sym (a_moment c.args.seconds c.date_of.result e low high c.date_of.ensures.year)
