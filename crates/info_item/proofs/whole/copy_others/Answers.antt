use Rattle.std.proofs.Common.{◌≡◌, ℕ, List, sym, subst, IfOk}
use Rattle.info_tree.specs.Tree.{Tree}
use Rattle.info_tree.proofs.PairLemmas.{pair_list-pairs_of}
use Rattle.info_item.specs.View as spec
use Rattle.info_item.proofs.whole.copy_others.Goals as goal

pub returns-in-Map : goal.returns-in-Map
returns-in-Map c =
    rw c.in-Map.is (subst (λ (ps : List (List ℕ × Tree)). IfOk c.others.result (λ m. m ≡ spec.others ps)) (sym (pair_list-pairs_of c.in-Map.pairs)) c.others.ensures)
