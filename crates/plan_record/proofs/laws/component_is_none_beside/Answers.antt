use Rattle.plan_record.proofs.NameLemmas.{own_not_beside}
use Rattle.plan_record.proofs.laws.component_is_none_beside.Goals as goal

pub returns : goal.returns
returns c = own_not_beside c.args._component.now
