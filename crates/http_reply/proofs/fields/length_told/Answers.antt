use Rattle.std.proofs.Common.{refl, sym, ◌∙◌}
use Rattle.std.specs.Prelude.{codes}
use Rattle.http_reply.proofs.FieldLemmas.{values_at-named, values_at-other, values_at-end, told_step, told_stop}
use Rattle.http_reply.proofs.FieldLemmas.{told_step, told_stop, told_end}
use Rattle.http_reply.proofs.fields.length_told.Goals as goal
use Rattle.http_reply.proofs.fields.length_told.Goals.{then-is_named+in-Some, else-is_named}

pub returns-in-None : goal.returns-in-None
returns-in-None c = sym (c.loop-header.invariant ∙ (rw (values_at-named (codes "content-length") c.args.bytes.now c.args.headers.now c.loop-header.header-index _ c.loop-header-test.true (sym c.is_named.ensures ∙ c.if-is_named.true), sym c.of.ensures, sym c.number.ensures) (told_stop c.loop-header.told c.number.result _ (sym c.agreed.ensures ∙ c.in-None.is))))

pub loop-header-preserved : goal.loop-header-preserved
loop-header-preserved c = elim c.if-is_named.branch [
  | then-is_named+in-Some w ↦ c.loop-header.invariant ∙ (rw (
    values_at-named (codes "content-length") c.args.bytes.now c.args.headers.now c.loop-header.header-index _ c.loop-header-test.true (sym c.is_named.ensures ∙ w.if-is_named.true),
    sym w.of.ensures,
    sym w.number.ensures,
    w.told-is,
  ) (told_step c.loop-header.told w.number.result _ _ (sym w.agreed.ensures ∙ w.in-Some.is)))
  | else-is_named w ↦ c.loop-header.invariant ∙ (rw (values_at-other (codes "content-length") c.args.bytes.now c.args.headers.now c.loop-header.header-index _ c.loop-header-test.true (sym c.is_named.ensures ∙ w.if-is_named.false), w.told-is) refl)
]

pub returns : goal.returns
returns c = sym (c.loop-header.invariant ∙ (rw (values_at-end (codes "content-length") c.args.bytes.now c.args.headers.now c.loop-header.header-index c.loop-header-test.false) (told_end c.loop-header.told)))
