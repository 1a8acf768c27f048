use Rattle.std.proofs.Common.{sym, ◌∙◌, ap}
use Rattle.file_server.specs.Request.{range_value}
use Rattle.file_server.proofs.RequestLemmas.{first_range-named, first_range-other, first_range-end}
use Rattle.file_server.proofs.request.first_range.Goals as goal

pub returns-then-is_range : goal.returns-then-is_range
returns-then-is_range c =
    sym (c.loop-header.invariant
    ∙ first_range-named c.args.bytes.now c.args.headers.now c.loop-header.header-index _ c.loop-header-test.true (sym c.is_range.ensures ∙ c.if-is_range.true)
    ∙ sym (c.range_value.ensures ∙ ap range_value c.of.ensures))

pub loop-header-preserved : goal.loop-header-preserved
loop-header-preserved c =
    c.loop-header.invariant
    ∙ first_range-other c.args.bytes.now c.args.headers.now c.loop-header.header-index _ c.loop-header-test.true (sym c.is_range.ensures ∙ c.if-is_range.false)

pub returns : goal.returns
returns c = sym (c.loop-header.invariant ∙ first_range-end c.args.bytes.now c.args.headers.now c.loop-header.header-index c.loop-header-test.false)
