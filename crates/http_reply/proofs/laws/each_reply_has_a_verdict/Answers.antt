use Rattle.http_reply.proofs.VerdictLemmas.{has_verdict}
use Rattle.http_reply.proofs.laws.each_reply_has_a_verdict.Goals as goal

pub returns : goal.returns
returns c = has_verdict
