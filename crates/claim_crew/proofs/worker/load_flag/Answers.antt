use Rattle.std.proofs.Common.{arith}
use Rattle.claim_crew.proofs.StepLemmas.{glances}
use Rattle.claim_crew.proofs.worker.load_flag.Goals as goal

pub load-requires : goal.load-requires
load-requires g c = (c.requires.id.0, omega (arith, c.requires.id.1), glances g.W.Task.fails _ _ _ _ _ c.requires.none)
