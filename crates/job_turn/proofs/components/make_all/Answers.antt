use Rattle.std.proofs.Common.{◌∙◌, sym, subst, arith}
use Rattle.std.proofs.lemmas.List.Elements.{All-head, All-tail}
use Rattle.std.specs.Prelude.{Ok, Err, All}
use Rattle.std.proofs.lemmas.Result.{err_from_is_err_and}
use Rattle.job_turn.specs.Job.{HasPieces, AreSettings}
use Rattle.job_turn.proofs.ApartLemmas.{one_endures}
use Rattle.job_turn.proofs.MakeLemmas.{made_halt, made_on, made_end}
use Rattle.job_turn.proofs.components.make_all.Goals as goal

pub make_one-made-requires-clause-settings : goal.make_one-made-requires-clause-settings
make_one-made-requires-clause-settings g c = λ κs inside. subst (AreSettings c.args.settings) (sym c.loop-number.invariant.many) c.requires.settings

pub make_one-made-requires-clause-pieces : goal.make_one-made-requires-clause-pieces
make_one-made-requires-clause-pieces g c = λ κs inside.
    All-head HasPieces c.in-Some.component c.next.new.self.iter.rest.items (subst (All HasPieces) c.in-Some.ensures.steps.0.0 c.loop-number.invariant.pieces)

pub loop-number-preserved : goal.loop-number-preserved
loop-number-preserved g c =
    let steps = c.in-Some.ensures.steps in
    record {
      whole = λ t.
          let endures = one_endures g.D.Dialer.wire c.args.is_final c.args.settings c.in-Some.component c.make_one-made.ensures.made in
          endures.whole t (c.loop-number.invariant.whole (endures.tells t));
      pieces = All-tail HasPieces c.in-Some.component c.next.new.self.iter.rest.items (subst (All HasPieces) steps.0.0 c.loop-number.invariant.pieces);
      many = c.make_one-made.ensures.dialers ∙ c.loop-number.invariant.many;
      rest = λ world result es makes. c.loop-number.invariant.rest world result es
          (made_on g.D.Dialer.wire c.args.is_final c.args.settings c.loop-number.number-iterator.count c.in-Some.number c.next.new.self.count c.loop-number.number-iterator.iter.rest.items c.in-Some.component c.next.new.self.iter.rest.items result
          steps.0.0 steps.1 steps.2 c.in_ok-component_answer.ensures c.make_one-made.ensures.made makes);
    }

pub returns-in_err-component_answer-clause-made : goal.returns-in_err-component_answer-clause-made
returns-in_err-component_answer-clause-made g c =
    let p = err_from_is_err_and c.from_residual.result c.from_residual.ensures.1 in
    let steps = c.in-Some.ensures.steps in
    rw (p.1, p.2) (c.loop-number.invariant.rest _ (Err c.in_err-component_answer.field-0.0) _
    (made_halt g.D.Dialer.wire c.args.is_final c.args.settings c.loop-number.number-iterator.count c.in-Some.number c.loop-number.number-iterator.iter.rest.items c.in-Some.component c.next.new.self.iter.rest.items c.in_err-component_answer.field-0.0
    steps.0.0 steps.1 c.in_err-component_answer.ensures c.make_one-made.ensures.made))

pub returns-in_err-component_answer-clause-dialers : goal.returns-in_err-component_answer-clause-dialers
returns-in_err-component_answer-clause-dialers g c = c.make_one-made.ensures.dialers ∙ c.loop-number.invariant.many

pub returns-clause-made : goal.returns-clause-made
returns-clause-made g c =
    c.loop-number.invariant.rest _ (Ok tt) _
    (made_end g.D.Dialer.wire c.args.is_final c.args.settings c.loop-number.number-iterator.count c.loop-number.number-iterator.iter.rest.items (g.F.Folder.world c.loop-number.folder) c.loop-number.dialers.items
    (omega (arith, c.loop-number.number-iterator.iter.rest.ok.0, c.in-None.ensures.steps.0.0)))
