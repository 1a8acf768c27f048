use Rattle.std.proofs.Common.{length, arith, sym, ◌∙◌}
use Rattle.text_base.proofs.FrontLemmas.{digits_length_is}
use Rattle.text_base.proofs.num_spelling.digits_len.Goals as goal

pub returns-then-not-is_ascii_digit-clause-count : goal.returns-then-not-is_ascii_digit-clause-count
returns-then-not-is_ascii_digit-clause-count c =
    digits_length_is c.args.bytes.now c.loop-at.at (omega arith) c.loop-at.invariant (λ l. sym (c.is_ascii_digit.ensures.value) ∙ c.if-not-is_ascii_digit.true)

pub returns-clause-count : goal.returns-clause-count
returns-clause-count c = digits_length_is c.args.bytes.now (length c.args.bytes.now) (omega arith) (λ k l. c.loop-at.invariant k (omega arith)) (λ l. absurd (omega arith))
