use Rattle.std.proofs.Common.{ap, ◌∙◌}
use Rattle.info_tree.specs.Plain.{plain}
use Rattle.info_tree.specs.Pairs.{put}
use Rattle.info_item.proofs.PlaceLemmas.{over-own, place-kept}
use Rattle.info_item.proofs.lazy.View.put.Goals as goal

pub invariant_of-self-2 : goal.invariant_of-self-2
invariant_of-self-2 c =
    rw (c.kept_maps.ensures, c.take.ensures.value, c.in_ok-put.ensures.ok) (place-kept c.self.inside.own c.args.key.now _ (plain c.args.tree) c.self.invariant)

pub returns : goal.returns
returns c =
    rw (c.kept_maps.ensures, c.take.ensures.value, c.in_ok-put.ensures.ok)
    (over-own c.self.inside.own c.args.key.now _ _ (plain c.args.tree) c.in_ok-put.ensures.distinct c.self.invariant ∙ ap (λ v. put v c.args.key.now (plain c.args.tree)) c.self.view_is)
