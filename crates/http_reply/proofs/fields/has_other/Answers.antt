use Rattle.std.proofs.Common.{refl, sym, ◌∙◌}
use Rattle.http_reply.proofs.FieldLemmas.{values_at-named, values_at-other, values_at-end}
use Rattle.http_reply.proofs.fields.has_other.Goals as goal
use Rattle.http_reply.proofs.fields.has_other.Goals.{else-is_named-via-then-is_named+else-not-is_same, else-is_named-via-else-is_named}

pub returns-then-not-is_same : goal.returns-then-not-is_same
returns-then-not-is_same c =
    sym (c.loop-header.invariant ∙ (rw (values_at-named c.args.name.now c.args.bytes.now c.args.headers.now c.loop-header.header-index _ c.loop-header-test.true (sym c.is_named.ensures ∙ c.if-is_named.true), sym c.of.ensures, sym c.is_same.ensures, c.if-not-is_same.true) refl))

pub loop-header-preserved : goal.loop-header-preserved
loop-header-preserved c = elim c.else-is_named.branch [
  | else-is_named-via-then-is_named+else-not-is_same w ↦
      c.loop-header.invariant ∙ (rw (values_at-named c.args.name.now c.args.bytes.now c.args.headers.now c.loop-header.header-index _ c.loop-header-test.true (sym c.is_named.ensures ∙ w.if-is_named.true), sym w.of.ensures, sym w.is_same.ensures, w.if-not-is_same.false) refl)
  | else-is_named-via-else-is_named w ↦
      c.loop-header.invariant ∙ (rw (values_at-other c.args.name.now c.args.bytes.now c.args.headers.now c.loop-header.header-index _ c.loop-header-test.true (sym c.is_named.ensures ∙ w.if-is_named.false)) refl)
]

pub returns : goal.returns
returns c = sym (c.loop-header.invariant ∙ (rw (values_at-end c.args.name.now c.args.bytes.now c.args.headers.now c.loop-header.header-index c.loop-header-test.false) refl))
