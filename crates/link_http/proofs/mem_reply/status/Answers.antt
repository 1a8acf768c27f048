use Rattle.std.proofs.Common.{◌∙◌}
use Rattle.link_http.proofs.HonestHeadLemmas.{status_formed}
use Rattle.link_http.proofs.mem_reply.status.Goals as goal

pub returns : goal.returns
returns c =
    c.in_ok-from_slice.ensures.items ∙ c.as_bytes.ensures.value ∙ c.in_ok-head.ensures.ok
    ∙ rw c.zeros-zeros.ensures (status_formed c.args.code)
