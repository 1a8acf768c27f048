use Rattle.std.proofs.Common.{◌≡◌, ◌∙◌, ◌++◌, ◌∷◌, [], List, sym, ap, subst, map}
use Rattle.tool_chain.specs.Jobs.{job_of, OutputsApart}
use Rattle.tool_chain.specs.declared.job.ToolJob.{ToolJob}
use Rattle.disk_tests.proofs.PairLemmas.{pair_apart}
use Rattle.disk_tests.proofs.child_tests.pair.Goals as goal

pub returns : goal.returns
returns c =
    let items : c.push-2.new.self.items ≡ c.args.first ∷ c.args.second ∷ [] = c.in_ok-push-2.ensures.items ∙ ap (λ (l : List ToolJob). l ++ c.args.second ∷ [])
    (c.in_ok-push.ensures.items ∙ ap (λ (l : List ToolJob). l ++ c.args.first ∷ []) c.new-steps.ensures.items) in
    subst (λ (l : List ToolJob). OutputsApart (map job_of l)) (sym items) (pair_apart (job_of c.args.first) (job_of c.args.second) c.requires.first c.requires.second c.requires.one)
