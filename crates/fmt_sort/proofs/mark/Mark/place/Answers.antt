use Rattle.std.proofs.Common.{length, arith, sym, ◌∙◌}
use Rattle.std.proofs.lemmas.List.Sums.{position_or_len_is}
use Rattle.fmt_sort.specs.Marks.{is_marked}
use Rattle.fmt_sort.proofs.mark.Mark.place.Goals as goal

pub returns-then-is_at-clause-place : goal.returns-then-is_at-clause-place
returns-then-is_at-clause-place c =
    sym (position_or_len_is (is_marked c.args.self) c.args.bytes.now c.loop-at.at 0 (omega arith) c.loop-at.invariant (λ l. sym c.is_at.ensures ∙ c.if-is_at.true))

pub returns-clause-place : goal.returns-clause-place
returns-clause-place c =
    sym (position_or_len_is (is_marked c.args.self) c.args.bytes.now (length c.args.bytes.now) 0 (omega arith) (λ k l. c.loop-at.invariant k (omega arith)) (λ l. absurd (omega arith)))
