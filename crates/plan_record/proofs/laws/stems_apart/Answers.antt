use Rattle.std.proofs.Common.{arith}
use Rattle.plan_record.proofs.NameLemmas.{stems_are_apart}
use Rattle.plan_record.proofs.laws.stems_apart.Goals as goal

pub returns : goal.returns
returns c = stems_are_apart c.args._component.now c.args._piece c.args._other (omega arith) (omega arith)
