use Rattle.std.proofs.Common.{sym, below_more, arith}
use Rattle.std.proofs.lemmas.List.{take_all, drop_all}
use Rattle.std.proofs.lemmas.Bool.{ne_eqb}
use Rattle.file_server.proofs.CutLemmas.{first_at, first_none}
use Rattle.file_server.proofs.cut.cut_at.Goals as goal

pub returns-then-b-byte-clause-front : goal.returns-then-b-byte-clause-front
returns-then-b-byte-clause-front c =
    rw (first_at c.args.byte c.args.text.now c.loop-i.i c.loop-i-test.true c.loop-i.invariant c.if-b-byte.true) c.split_at.ensures.front

pub returns-then-b-byte-clause-rest : goal.returns-then-b-byte-clause-rest
returns-then-b-byte-clause-rest c =
    rw (first_at c.args.byte c.args.text.now c.loop-i.i c.loop-i-test.true c.loop-i.invariant c.if-b-byte.true) c.split_at.ensures.back

pub loop-i-preserved : goal.loop-i-preserved
loop-i-preserved c = below_more _ _ c.loop-i.invariant (ne_eqb _ _ c.if-b-byte.false)

pub returns-clause-front : goal.returns-clause-front
returns-clause-front c =
    rw (first_none c.args.byte c.args.text.now c.loop-i.i c.loop-i-test.false c.loop-i.invariant) (sym (take_all _ _ (omega arith)))

pub returns-clause-rest : goal.returns-clause-rest
returns-clause-rest c =
    rw (first_none c.args.byte c.args.text.now c.loop-i.i c.loop-i-test.false c.loop-i.invariant) (sym (drop_all _ c.args.text.now (omega arith)))
