use Rattle.std.proofs.Common.{ap, sym, ◌∙◌}
use Rattle.std.proofs.lemmas.Result.{IfOk-weaker}
use Rattle.info_tree.specs.Pairs.{value_at}
use Rattle.info_tree.proofs.PairLemmas.{pair_list-pairs_of}
use Rattle.info_item.proofs.values.ViewValues.get.Goals as goal

pub returns : goal.returns
returns c =
    IfOk-weaker c.get.result _ _ (λ found e. e ∙ ap (λ ps. value_at ps c.args.key.now) (sym (pair_list-pairs_of c.args.self.now))) c.get.ensures
