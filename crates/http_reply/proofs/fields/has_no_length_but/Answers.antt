use Rattle.std.proofs.Common.{refl, sym, ◌∙◌}
use Rattle.std.specs.Prelude.{codes}
use Rattle.http_reply.proofs.FieldLemmas.{values_at-named, values_at-other, values_at-end}
use Rattle.http_reply.proofs.fields.has_no_length_but.Goals as goal
use Rattle.http_reply.proofs.fields.has_no_length_but.Goals.{else-is_named-via-then-is_named+else-not-tells, else-is_named-via-else-is_named}

pub returns-then-not-tells : goal.returns-then-not-tells
returns-then-not-tells c =
    sym (c.loop-header.invariant ∙ (rw (values_at-named (codes "content-length") c.args.bytes.now c.args.headers.now c.loop-header.header-index _ c.loop-header-test.true (sym c.is_named.ensures ∙ c.if-is_named.true), sym c.of.ensures, sym c.tells.ensures, c.if-not-tells.true) refl))

pub loop-header-preserved : goal.loop-header-preserved
loop-header-preserved c = elim c.else-is_named.branch [
  | else-is_named-via-then-is_named+else-not-tells w ↦
      c.loop-header.invariant ∙ (rw (values_at-named (codes "content-length") c.args.bytes.now c.args.headers.now c.loop-header.header-index _ c.loop-header-test.true (sym c.is_named.ensures ∙ w.if-is_named.true), sym w.of.ensures, sym w.tells.ensures, w.if-not-tells.false) refl)
  | else-is_named-via-else-is_named w ↦
      c.loop-header.invariant ∙ (rw (values_at-other (codes "content-length") c.args.bytes.now c.args.headers.now c.loop-header.header-index _ c.loop-header-test.true (sym c.is_named.ensures ∙ w.if-is_named.false)) refl)
]

pub returns : goal.returns
returns c = sym (c.loop-header.invariant ∙ (rw (values_at-end (codes "content-length") c.args.bytes.now c.args.headers.now c.loop-header.header-index c.loop-header-test.false) refl))
