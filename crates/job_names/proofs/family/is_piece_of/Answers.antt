use Rattle.std.proofs.Common.{◌&&◌, Bool, take, sym, ap, ◌∙◌, arith}
use Rattle.plan_record.specs.Names.{begins, pieces_of}
use Rattle.job_names.proofs.IndexLemmas.{piece_nowhere, piece_here, piece_none}
use Rattle.job_names.proofs.family.is_piece_of.Goals as goal

pub returns-then-is_piece_at : goal.returns-then-is_piece_at
returns-then-is_piece_at c = λ texts h.
    let front = take c.loop-place.place c.args.name.now in
    sym (piece_here texts c.args.name.now c.loop-place.place
    (ap (λ (b : Bool). begins (pieces_of front) c.args.name.now && b) (sym (h front)) ∙ sym c.is_piece_at.ensures ∙ c.if-is_piece_at.true))

pub loop-place-preserved : goal.loop-place-preserved
loop-place-preserved c = λ texts h.
    let front = take c.loop-place.place c.args.name.now in
    piece_nowhere texts c.args.name.now c.loop-place.place (c.loop-place.invariant texts h)
    (ap (λ (b : Bool). begins (pieces_of front) c.args.name.now && b) (sym (h front)) ∙ sym c.is_piece_at.ensures ∙ c.if-is_piece_at.false)

pub returns : goal.returns
returns c = λ texts h.
    piece_none texts c.args.name.now c.loop-place.place (omega (arith, c.loop-place-test.false, c.loop-place.auto.place-end)) (c.loop-place.invariant texts h)
