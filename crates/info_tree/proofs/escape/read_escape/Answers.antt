use Rattle.info_tree.proofs.Escapes.{a_hex, a_short, no_hex}
use Rattle.info_tree.proofs.escape.read_escape.Goals as goal

pub returns-in_err-unit-clause-none : goal.returns-in_err-unit-clause-none
returns-in_err-unit-clause-none c =
    rw c.from_residual-in_err-unit.ensures
    (no_hex c.args.text.now c.in_ok-letter.after.now c.in_ok-letter.letter c.in_ok-letter.ensures.some c.if-letter-eq117.true c.in_err-unit.ensures.none)

pub returns-then-letter-eq117-clause-some : goal.returns-then-letter-eq117-clause-some
returns-then-letter-eq117-clause-some c =
    a_hex c.args.text.now c.in_ok-letter.after.now c.in_ok-unit.rest.now c.in_ok-letter.letter c.in_ok-unit.unit c.in_ok-letter.ensures.some c.if-letter-eq117.true c.in_ok-unit.ensures.some

pub returns-clause-some : goal.returns-clause-some
returns-clause-some c =
    a_short c.args.text.now c.in_ok-letter.after.now c.in_ok-letter.letter c.in_ok-char.char c.in_ok-letter.ensures.some c.in_ok-char.ensures.0 c.in_ok-char.ensures.1
