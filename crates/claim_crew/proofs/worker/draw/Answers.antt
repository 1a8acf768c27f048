use Rattle.std.proofs.Common.{arith}
use Rattle.claim_crew.proofs.StepLemmas.{draws}
use Rattle.claim_crew.proofs.worker.draw.Goals as goal

pub fetch_add-requires : goal.fetch_add-requires
fetch_add-requires g c = (c.requires.id.0, omega (arith, c.requires.id.1), draws g.W.Task.fails _ _ _ _ _ c.requires.slots c.requires.free.0 c.requires.free.1)
