use Rattle.std.proofs.Common.{◌≡◌, ℕ, ◌+◌, ◌++◌, arith, refl, sym, ap, ◌∙◌}
use Rattle.http_reply.specs.declared.part.Part.TheVariants.{Line}
use Rattle.http_reply.proofs.ChunkedLemmas.{line_open, line_unreadable, line_last, line_long, line_data, chunk_line-whole, chunk_line-short}
use Rattle.http_reply.specs.Machine.{part_room, part_left}
use Rattle.http_reply.specs.Content.{stopped}
use Rattle.http_reply.specs.declared.stop.Stop.TheVariants.{Long}
use Rattle.http_reply.proofs.MachineLemmas.{content-part}
use Rattle.http_reply.proofs.chunks.Chunks.at_line.Goals as goal

pub returns-in-Open-clause-does : goal.returns-in-Open-clause-does
returns-in-Open-clause-does c = (
  refl,
  chunk_line-short c.args.window.now (sym c.in-Open.ensures),
  content-part c.args.self.now Line c.args.window.now c.requires.part ∙ line_open _ _ _ (sym c.in-Open.ensures),
)

pub returns-in-Unreadable-clause-does : goal.returns-in-Unreadable-clause-does
returns-in-Unreadable-clause-does c = (
  refl,
  λ later. content-part c.args.self.now Line (c.args.window.now ++ later) c.requires.part
      ∙ line_unreadable _ _ _ _ (sym c.in-Unreadable.ensures),
)

pub returns-then-size-eq0-clause-does : goal.returns-then-size-eq0-clause-does
returns-then-size-eq0-clause-does c = (
  refl,
  λ later. content-part c.args.self.now Line (c.args.window.now ++ later) c.requires.part
      ∙ line_last _ _ _ _ _ _ (sym c.in-Whole.ensures) c.if-size-eq0.true,
)

pub returns-then-sum-gt-LIMIT-clause-does : goal.returns-then-sum-gt-LIMIT-clause-does
returns-then-sum-gt-LIMIT-clause-does c =
    let told = c.saturating_add-sum.ensures in (
      refl,
      λ later. content-part c.args.self.now Line (c.args.window.now ++ later) c.requires.part
          ∙ line_long _ _ _ _ _ _ (sym c.in-Whole.ensures) c.if-size-eq0.false (omega arith)
          ∙ ap (λ (n : ℕ). stopped (Long n)) (sym told),
    )

pub overflow_add-self : goal.overflow_add-self
overflow_add-self c =
    let line = chunk_line-whole c.args.window.now c.in-Whole.size c.in-Whole.len (sym c.in-Whole.ensures) in
    omega (arith, ap part_room c.requires.part)

pub returns-else-sum-gt-LIMIT-clause-does : goal.returns-else-sum-gt-LIMIT-clause-does
returns-else-sum-gt-LIMIT-clause-does c =
    let line = chunk_line-whole c.args.window.now c.in-Whole.size c.in-Whole.len (sym c.in-Whole.ensures) in
    let told = c.saturating_add-sum.ensures in
    let sum : c.saturating_add-sum.result ≡ c.args.self.now.sum + c.in-Whole.size = omega arith in (
      record { some = line.some; within = line.within; at = refl; room = omega (arith, ap part_room c.requires.part) },
      omega (arith, ap part_left c.requires.part),
      λ later. content-part c.args.self.now Line (c.args.window.now ++ later) c.requires.part
          ∙ line_data _ _ _ _ _ _ (sym c.in-Whole.ensures) c.if-size-eq0.false (omega arith)
          ∙ rw sum refl,
    )

pub returns-else-sum-gt-LIMIT-clause-sound : goal.returns-else-sum-gt-LIMIT-clause-sound
returns-else-sum-gt-LIMIT-clause-sound c =
    let line = chunk_line-whole c.args.window.now c.in-Whole.size c.in-Whole.len (sym c.in-Whole.ensures) in
    record { sum = omega arith; room = omega (arith, ap part_room c.requires.part); left = (omega arith, omega arith) }
