use Rattle.plan_record.proofs.NameLemmas.{stem_promises}
use Rattle.plan_record.proofs.laws.promise_name.Goals as goal

pub returns : goal.returns
returns c = stem_promises c.args._component.now c.args._piece c.args._len
