use Rattle.job_names.proofs.FamilyLemmas.{exact_names_decide}
use Rattle.job_names.proofs.laws.exact_names_decide.Goals as goal

pub returns : goal.returns
returns c = exact_names_decide
