use Rattle.std.proofs.Common.{◌≡◌, map, drop}
use Rattle.std.specs.String.{string_bytes}
use Rattle.info_item.specs.View as spec
use Rattle.info_item.proofs.merged.joined_texts.Given as goal

abbrev pub invariant-loop-part : goal.invariant-loop-part
invariant-loop-part l =
    spec.more_texts l.field (string_bytes l.joined) (map (λ f. f.now) (drop l.part-index l.rest)) ≡ spec.joined_texts l.field (map (λ f. f.now) l.parts.items)
