use Rattle.std.proofs.Common.{is_some, ◌∙◌, rules, tests}
use Rattle.std.proofs.lemmas.Iterator.{YieldsList-from_slice}
use Rattle.std.proofs.lemmas.Iterator.Search.{any_from_yields_List}
use Rattle.job_names.proofs.OutputLemmas.{has_outputs}
use Rattle.job_names.proofs.family.has_output.Goals as goal

pub returns : goal.returns
returns c =
    any_from_yields_List (λ step. is_some step.output) _ _ c.any.result c.any.ensures.ran (YieldsList-from_slice c.args.steps.now cc) (λ x b q k. search (rules, tests))
    ∙ has_outputs c.args.steps.now
