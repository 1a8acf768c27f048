use Rattle.std.proofs.Common.{◌≡◌, map, drop}
use Rattle.std.specs.Prelude.{find}
use Rattle.info_item.specs.Fields.{has_video_of}
use Rattle.info_item.proofs.merged.first_with_video.Given as goal

abbrev pub invariant-loop-part : goal.invariant-loop-part
invariant-loop-part l = find (λ f. has_video_of f.tree) (map (λ f. f.now) (drop l.part-index l.part-items)) ≡ find (λ f. has_video_of f.tree) (map (λ f. f.now) l.parts.items)
