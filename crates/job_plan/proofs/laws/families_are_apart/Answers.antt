use Rattle.job_plan.specs.Views.{plain_plan}
use Rattle.job_plan.proofs.ApartLemmas.{families_apart}
use Rattle.job_plan.proofs.laws.families_are_apart.Goals as goal

pub returns : goal.returns
returns c = families_apart (plain_plan c.args._options.now) c.args._items.now
