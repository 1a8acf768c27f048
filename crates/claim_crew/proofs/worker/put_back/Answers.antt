use Rattle.std.proofs.Common.{arith}
use Rattle.claim_crew.proofs.StepLemmas.{looks, only_claimed, one_claimed}
use Rattle.claim_crew.proofs.worker.put_back.Goals as goal

pub load-requires : goal.load-requires
load-requires g c = let h = c.requires.held in (c.requires.id.0, omega (arith, c.requires.id.1), looks g.W.Task.fails _ _ _ _ _ c.args.at h.1 h.2.1 (only_claimed _ h.0 _ h.2.0) (one_claimed _ _ h.2.0))
