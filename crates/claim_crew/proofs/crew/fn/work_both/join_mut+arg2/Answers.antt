use Rattle.claim_crew.proofs.LogLemmas.{alone}
use Rattle.claim_crew.proofs.crew.fn.work_both.join_mut+arg2.Goals as goal

pub returns : goal.returns
returns g c = (c.work.ensures.id.0, alone (g.W.Task.does c.captures.crew.now.task.now) g.W.Task.fails 1 _ c.captures.first.now c.index-first-0.result c.work.new.hand c.requires.2 c.work.ensures.done)
