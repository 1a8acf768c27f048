use Rattle.std.proofs.Common.{◌≡◌, sym, ◌∙◌, get_or}
use Rattle.std.specs.Prelude.{true}
use Rattle.std.specs.Char.{is_ascii_digit}
use Rattle.file_server.proofs.NumeralLemmas.{number_more, digits_more}
use Rattle.file_server.proofs.numeral.number.Goals as goal

pub loop-byte-preserved : goal.loop-byte-preserved
loop-byte-preserved c =
    let text = c.args.text.now in
    let i = c.loop-byte.byte-index in
    let digit : is_ascii_digit (get_or text i 0) ≡ true = sym c.is_ascii_digit.ensures.value ∙ c.if-not-is_ascii_digit.false in (
      c.saturating_add-value.ensures
          ∙ (rw c.saturating_mul.ensures (number_more text i c.loop-byte.value c.loop-byte-test.true c.loop-byte.invariant.0 digit)),
      digits_more text i c.loop-byte-test.true c.loop-byte.invariant.1 digit,
    )
