use Rattle.std.proofs.Common.{refl, sym, ◌∙◌}
use Rattle.std.specs.Prelude.{codes}
use Rattle.http_reply.proofs.FieldLemmas.{values_at-named, values_at-other, values_at-end}
use Rattle.http_reply.proofs.FieldLemmas.{some_after}
use Rattle.http_reply.proofs.fields.is_chunked.Goals as goal

pub returns-then-is_named : goal.returns-then-is_named
returns-then-is_named c =
    sym (c.loop-header.invariant ∙ some_after _ _ _ (values_at-named (codes "transfer-encoding") c.args.bytes.now c.args.headers.now c.loop-header.header-index _ c.loop-header-test.true (sym c.is_named.ensures ∙ c.if-is_named.true)))

pub loop-header-preserved : goal.loop-header-preserved
loop-header-preserved c = c.loop-header.invariant ∙ (rw (values_at-other (codes "transfer-encoding") c.args.bytes.now c.args.headers.now c.loop-header.header-index _ c.loop-header-test.true (sym c.is_named.ensures ∙ c.if-is_named.false)) refl)

pub returns : goal.returns
returns c = sym (c.loop-header.invariant ∙ (rw (values_at-end (codes "transfer-encoding") c.args.bytes.now c.args.headers.now c.loop-header.header-index c.loop-header-test.false) refl))
