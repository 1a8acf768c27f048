use Rattle.std.proofs.Common.{arith}
use Rattle.claim_crew.proofs.StepLemmas.{stops, only_claimed, one_claimed}
use Rattle.claim_crew.proofs.worker.put_back_failed.Goals as goal

pub fetch_or-requires : goal.fetch_or-requires
fetch_or-requires g c = let h = c.requires.held in (c.requires.id.0, omega (arith, c.requires.id.1), stops g.W.Task.fails _ _ _ _ _ c.args.at h.1 h.2.1 h.3 (only_claimed _ h.0 _ h.2.0) (one_claimed _ _ h.2.0))
