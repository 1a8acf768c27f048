use Rattle.std.proofs.Common.{arith}
use Rattle.plan_record.proofs.PlanLemmas.{plan_is_sole}
use Rattle.plan_record.proofs.laws.plan_sole.Goals as goal

pub returns : goal.returns
returns c = plan_is_sole c.args._one.now c.args._other.now (omega arith) (omega arith)
