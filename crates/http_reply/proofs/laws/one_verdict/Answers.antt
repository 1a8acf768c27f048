use Rattle.http_reply.proofs.VerdictLemmas.{verdict_unique}
use Rattle.http_reply.proofs.laws.one_verdict.Goals as goal

pub returns : goal.returns
returns c = verdict_unique
