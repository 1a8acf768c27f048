use Rattle.std.proofs.Common.{◌<◌, length, arith, refl, ◌∙◌, ◌++◌, ap, subst, ◌≤◌}
use Rattle.http_reply.proofs.MachineLemmas.{content-part, data_some}
use Rattle.http_reply.specs.declared.part.Part.TheVariants.{Data}
use Rattle.http_reply.specs.Machine.{part_room, part_left, HasLeft}
use Rattle.http_reply.proofs.chunks.Chunks.in_data.Goals as goal

pub returns-then-window-left-clause-does : goal.returns-then-window-left-clause-does
returns-then-window-left-clause-does c =
    let left : (0 < c.args.left) × (c.args.left ≤ c.args.self.now.sum) = subst (HasLeft c.args.self.now.sum) c.requires.part c.requires.sound.left in
    let some : 0 < length c.args.window.now = grind arith in (
      record { some = some; within = omega arith; at = refl; room = omega (arith, ap part_room c.requires.part) },
      omega (arith, ap part_left c.requires.part, left),
      λ later. content-part c.args.self.now (Data c.args.left) (c.args.window.now ++ later) c.requires.part
          ∙ data_some c.args.left _ _ _ _ (omega arith),
    )
