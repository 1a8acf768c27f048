use Rattle.std.proofs.Common.{◌∙◌, ap}
use Rattle.std.specs.Prelude.{is_some}
use Rattle.info_tree.specs.Tree.{Tree}
use Rattle.job_pieces.specs.Pieces.{pieces_of}
use Rattle.job_plan.proofs.FetchableLemmas.{can_at, can_past, told_more}
use Rattle.job_plan.proofs.fetchable.Fetchable.is_fetchable.Goals as goal

pub returns-in_default-clause-answer : goal.returns-in_default-clause-answer
returns-in_default-clause-answer c = λ formats told. can_past formats c.args.self.now c.args.place told c.in_default.ensures

pub returns-in-Some-known-clause-answer : goal.returns-in-Some-known-clause-answer
returns-in-Some-known-clause-answer c = λ formats told. told.right c.args.place c.in-Some-known.can c.in-Some-known.ensures

pub returns-clause-told : goal.returns-clause-told
returns-clause-told c = λ formats told.
    told_more formats c.args.self.now c.learn.new.self c.args.place c.in_ok-can.can told c.learn.ensures.formats c.learn.ensures.answers
    (can_at formats c.args.self.now c.args.place c.in-Some.format.now c.in_ok-can.can told c.in-Some.ensures (c.in_ok-can.ensures ∙ ap (λ (t : Tree). is_some (pieces_of t)) c.tree.ensures))

pub returns-clause-answer : goal.returns-clause-answer
returns-clause-answer c = λ formats told.
    can_at formats c.args.self.now c.args.place c.in-Some.format.now c.in_ok-can.can told c.in-Some.ensures (c.in_ok-can.ensures ∙ ap (λ (t : Tree). is_some (pieces_of t)) c.tree.ensures)
