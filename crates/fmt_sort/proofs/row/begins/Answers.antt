use Rattle.std.proofs.Common.{◌∙◌, sym}
use Rattle.fmt_sort.proofs.RowLemmas.{begins_on, begins_ended}
use Rattle.fmt_sort.proofs.row.begins.Goals as goal

pub loop-letter-preserved : goal.loop-letter-preserved
loop-letter-preserved c =
    c.loop-letter.invariant
    ∙ begins_on c.loop-letter.rest.now c.args.name.now c.loop-letter.letter-index c.loop-letter-test.true c.in-len1-up.len_at_least
    (sym c.to_ascii_lowercase.ensures.value ∙ c.if-to_ascii_lowercase-letter.true)

pub returns-in_default : goal.returns-in_default
returns-in_default c =
    sym (c.loop-letter.invariant ∙ begins_ended c.loop-letter.rest.now c.args.name.now c.loop-letter.letter-index c.loop-letter-test.true c.in_default.len_below)
