use Rattle.std.proofs.Common.{arith}
use Rattle.text_base.specs.Spelling.{digits_length}
use Rattle.text_base.proofs.PartsLemmas.{front_digits}
use Rattle.text_base.proofs.size.split_digits.Goals as goal

pub returns-clause-digits : goal.returns-clause-digits
returns-clause-digits c =
    rw c.split_at.ensures.front (rw c.digits_len.ensures.count (front_digits (digits_length c.args.bytes.now) c.args.bytes.now (omega arith)))
