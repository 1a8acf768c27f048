use Rattle.std.proofs.Common.{ap, ◌∙◌}
use Rattle.std.proofs.lemmas.Result.{IfOk-weaker}
use Rattle.info_tree.specs.Plain.{plain}
use Rattle.info_tree.specs.Pairs.{value_at}
use Rattle.info_item.proofs.PlaceLemmas.{own-first, own-rest}
use Rattle.info_item.proofs.lazy.View.get.Goals as goal

pub returns-in-Some : goal.returns-in-Some
returns-in-Some c =
    IfOk-weaker c.own_value.result _ _
    (λ found e. e ∙ own-first c.self.inside.own c.args.key.now _ _ c.get.ensures.distinct (plain c.in-Some.value.now) c.in-Some.ensures.value ∙ ap (λ v. value_at v c.args.key.now) c.self.view_is)
    c.own_value.ensures

pub returns-in-None : goal.returns-in-None
returns-in-None c =
    c.lend.ensures ∙ c.below.ensures ∙ own-rest c.self.inside.own c.args.key.now _ _ c.get.ensures.distinct c.self.invariant c.in-None.ensures.value
    ∙ ap (λ v. value_at v c.args.key.now) c.self.view_is
