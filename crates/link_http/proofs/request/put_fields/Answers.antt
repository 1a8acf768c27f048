use Rattle.link_http.specs.Request.{fields_text}
use Rattle.link_http.proofs.RequestLemmas.{fields_rest, fields_end}
use Rattle.link_http.proofs.request.put_fields.Goals as goal

pub loop-header-preserved : goal.loop-header-preserved
loop-header-preserved c =
    fields_rest c.loop-header.text.items c.args.text.now.items (fields_text c.args.headers.now) c.args.headers.now c.loop-header.header-index
    c.header-item.result c.put_if_sent.new.text.items c.loop-header-test.true c.header-item.is c.loop-header.invariant c.in_ok-put_if_sent.ensures

pub returns : goal.returns
returns c =
    fields_end c.loop-header.text.items c.args.text.now.items (fields_text c.args.headers.now) c.args.headers.now c.loop-header.header-index
    c.loop-header-test.false c.loop-header.invariant
