use Rattle.http_reply.proofs.TruthLaw.{truthful}
use Rattle.http_reply.proofs.laws.truthful_reply_gives_the_truth.Goals as goal

pub returns : goal.returns
returns c = truthful
