use Rattle.std.proofs.Common.{sym, ◌∙◌, ap, Some}
use Rattle.link_http.proofs.WorldLemmas.{asked_here, asked_further, asked_nowhere}
use Rattle.link_http.specs.Memory.{place_of}
use Rattle.link_http.proofs.mem_asked.asked_bytes.Goals as goal

pub returns-then-is_asked : goal.returns-then-is_asked
returns-then-is_asked c =
    ap Some c.deref.ensures.value
    ∙ sym (c.loop-resource.invariant
    ∙ asked_here c.args.resources.now (place_of c.args.dial.now) c.args.request.now c.loop-resource.resource-index c.resource-item.result
    c.loop-resource-test.true c.resource-item.is (sym c.is_asked.ensures ∙ c.if-is_asked.true))

pub loop-resource-preserved : goal.loop-resource-preserved
loop-resource-preserved c =
    c.loop-resource.invariant
    ∙ asked_further c.args.resources.now (place_of c.args.dial.now) c.args.request.now c.loop-resource.resource-index c.resource-item.result
    c.loop-resource-test.true c.resource-item.is (sym c.is_asked.ensures ∙ c.if-is_asked.false)

pub returns : goal.returns
returns c =
    sym (c.loop-resource.invariant
    ∙ asked_nowhere c.args.resources.now (place_of c.args.dial.now) c.args.request.now c.loop-resource.resource-index c.loop-resource-test.false)
