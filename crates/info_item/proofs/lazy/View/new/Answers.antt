use Rattle.std.proofs.Common.{map}
use Rattle.info_item.proofs.PlaceLemmas.{own-begun, place-begun}
use Rattle.info_item.proofs.lazy.View.new.Goals as goal

pub invariant_of-result : goal.invariant_of-result
invariant_of-result c =
    rw (c.in_ok-maps.ensures, c.in_ok-own.ensures) (place-begun (map (λ f. f.now) c.in_ok-parts.parts.items) c.as_str.result.now c.args.number)

pub returns : goal.returns
returns c =
    rw (c.in_ok-maps.ensures, c.in_ok-own.ensures, own-begun (map (λ f. f.now) c.in_ok-parts.parts.items) c.as_str.result.now c.args.number)
    (simp (c.are_several.ensures, c.only_part.ensures, c.tree.ensures, c.in_ok-parts.ensures, c.formats.ensures, c.as_str.ensures))
