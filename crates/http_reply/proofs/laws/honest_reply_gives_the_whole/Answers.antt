use Rattle.http_reply.proofs.HonestLemmas.{honest_verdict}
use Rattle.http_reply.proofs.laws.honest_reply_gives_the_whole.Goals as goal

pub returns : goal.returns
returns c = honest_verdict
