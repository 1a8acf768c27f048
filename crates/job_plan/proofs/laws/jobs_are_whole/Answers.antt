use Rattle.job_plan.specs.Views.{plain_plan}
use Rattle.job_plan.proofs.WholeLemmas.{jobs_whole}
use Rattle.job_plan.proofs.laws.jobs_are_whole.Goals as goal

pub returns : goal.returns
returns c = jobs_whole (plain_plan c.args._options.now) c.args._items.now
