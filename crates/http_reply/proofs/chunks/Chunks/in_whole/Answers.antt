use Rattle.std.proofs.Common.{◌<◌, ◌≤◌, length, arith, refl, ◌∙◌, ◌++◌, ap, subst}
use Rattle.http_reply.proofs.MachineLemmas.{content-part, sized_some}
use Rattle.http_reply.specs.Machine.{part_room, part_left, HasLeft}
use Rattle.http_reply.specs.declared.part.Part.TheVariants.{Whole}
use Rattle.http_reply.proofs.chunks.Chunks.in_whole.Goals as goal

pub returns-clause-does : goal.returns-clause-does
returns-clause-does c =
    let left : c.args.left ≤ c.args.self.now.sum = subst (HasLeft c.args.self.now.sum) c.requires.part c.requires.sound.left in
    let some : 0 < length c.args.window.now = grind arith in (
      record { some = omega arith; within = omega arith; at = refl; room = omega (arith, ap part_room c.requires.part) },
      omega (arith, ap part_left c.requires.part),
      λ later. content-part c.args.self.now (Whole c.args.left) (c.args.window.now ++ later) c.requires.part
          ∙ sized_some c.args.left c.lesser-len.result c.args.window.now later c.lesser-len.ensures,
    )
