use Rattle.std.proofs.Common.{ap, ◌∙◌}
use Rattle.info_tree.specs.Tree.{mapping, pairs_of}
use Rattle.info_item.proofs.PlaceLemmas.{over-list}
use Rattle.info_item.proofs.lazy.View.tree.Goals as goal

pub returns : goal.returns
returns c =
    rw (c.in_ok-put_maps.ensures, c.in_ok-put_all.ensures.over, c.in_ok-pairs.ensures)
    (ap (λ ps. mapping (pairs_of ps)) (over-list _ c.self.inside.own _ c.in_ok-put_all.ensures.distinct ∙ c.self.view_is))
