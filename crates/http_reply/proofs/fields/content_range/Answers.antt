use Rattle.std.proofs.Common.{refl, sym, ◌∙◌}
use Rattle.std.specs.Prelude.{codes}
use Rattle.http_reply.proofs.FieldLemmas.{values_at-named, values_at-other, values_at-end}
use Rattle.http_reply.proofs.FieldLemmas.{range_taken, range_first, range_end}
use Rattle.http_reply.proofs.fields.content_range.Goals as goal
use Rattle.http_reply.proofs.fields.content_range.Goals.{then-is_named+else-is_some, else-is_named}

pub returns-then-is_some : goal.returns-then-is_some
returns-then-is_some c =
    sym (c.loop-header.invariant ∙ (rw (values_at-named (codes "content-range") c.args.bytes.now c.args.headers.now c.loop-header.header-index _ c.loop-header-test.true (sym c.is_named.ensures ∙ c.if-is_named.true)) (range_taken c.loop-header.range _ _ (sym c.is_some.ensures ∙ c.if-is_some.true))))

pub loop-header-preserved : goal.loop-header-preserved
loop-header-preserved c = elim c.if-is_named.branch [
  | then-is_named+else-is_some w ↦ c.loop-header.invariant ∙ (rw (
    values_at-named (codes "content-range") c.args.bytes.now c.args.headers.now c.loop-header.header-index _ c.loop-header-test.true (sym c.is_named.ensures ∙ w.if-is_named.true),
    sym w.of.ensures,
    w.range-is,
    w.range_value.ensures,
  ) (range_first c.loop-header.range _ _ (sym w.is_some.ensures ∙ w.if-is_some.false)))
  | else-is_named w ↦ c.loop-header.invariant ∙ (rw (values_at-other (codes "content-range") c.args.bytes.now c.args.headers.now c.loop-header.header-index _ c.loop-header-test.true (sym c.is_named.ensures ∙ w.if-is_named.false), w.range-is) refl)
]

pub returns : goal.returns
returns c = sym (c.loop-header.invariant ∙ (rw (values_at-end (codes "content-range") c.args.bytes.now c.args.headers.now c.loop-header.header-index c.loop-header-test.false) (range_end c.loop-header.range ∙ sym c.unwrap_or.ensures)))
