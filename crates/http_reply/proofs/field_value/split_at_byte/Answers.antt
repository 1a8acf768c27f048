use Rattle.std.proofs.Common.{◌+◌, length, sym, refl, below_more, arith, length-drop}
use Rattle.std.proofs.lemmas.List.{take_all, drop_all}
use Rattle.std.proofs.lemmas.Bool.{ne_eqb}
use Rattle.http_reply.proofs.FieldLemmas.{first_at, first_none}
use Rattle.http_reply.proofs.field_value.split_at_byte.Goals as goal

pub returns-then-b-byte-clause-front : goal.returns-then-b-byte-clause-front
returns-then-b-byte-clause-front c =
    rw (first_at c.args.byte c.args.text.now c.loop-i.i c.loop-i-test.true c.loop-i.invariant c.if-b-byte.true) refl

pub returns-then-b-byte-clause-rest : goal.returns-then-b-byte-clause-rest
returns-then-b-byte-clause-rest c =
    rw (first_at c.args.byte c.args.text.now c.loop-i.i c.loop-i-test.true c.loop-i.invariant c.if-b-byte.true)
    (take_all _ _ (omega (arith, length-drop (c.loop-i.i + 1) c.args.text.now)))

pub loop-i-preserved : goal.loop-i-preserved
loop-i-preserved c = below_more _ _ c.loop-i.invariant (ne_eqb _ _ c.if-b-byte.false)

pub returns-clause-front : goal.returns-clause-front
returns-clause-front c =
    rw (first_none c.args.byte c.args.text.now c.loop-i.i c.loop-i-test.false c.loop-i.invariant) (sym (take_all _ _ (omega arith)))

pub returns-clause-rest : goal.returns-clause-rest
returns-clause-rest c =
    rw (first_none c.args.byte c.args.text.now c.loop-i.i c.loop-i-test.false c.loop-i.invariant) (sym (drop_all (length c.args.text.now + 1) c.args.text.now (omega arith)))
