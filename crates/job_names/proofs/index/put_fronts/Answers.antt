use Rattle.std.proofs.Common.{sym, ap, ◌∙◌, arith}
use Rattle.job_names.specs.Index.{told}
use Rattle.job_names.proofs.IndexLemmas.{front_more, front_not, front_end, none_more}
use Rattle.job_names.proofs.index.put_fronts.Goals as goal
use Rattle.job_names.proofs.index.put_fronts.Goals.{then-is_piece_front+in_ok-put_first, else-is_piece_front}

pub loop-at-init : goal.loop-at-init
loop-at-init c = λ front. none_more (told c.args.map.now front)

pub loop-at-preserved : goal.loop-at-preserved
loop-at-preserved c = elim c.if-is_piece_front.branch [
  | then-is_piece_front+in_ok-put_first w ↦ λ front.
      ap (λ m. told m front) w.map-is
      ∙ front_more (told c.args.map.now front) (told c.loop-at.map front) (told w.put_first.new.map front) front c.args.name.now c.loop-at.at c.args.place (c.loop-at.invariant front)
      (sym c.is_piece_front.ensures ∙ w.if-is_piece_front.true) (w.in_ok-put_first.ensures front)
  | else-is_piece_front w ↦ λ front.
      ap (λ m. told m front) w.map-is
      ∙ front_not (told c.args.map.now front) (told c.loop-at.map front) front c.args.name.now c.loop-at.at c.args.place (c.loop-at.invariant front)
      (sym c.is_piece_front.ensures ∙ w.if-is_piece_front.false)
]

pub returns : goal.returns
returns c = λ front.
    front_end (told c.args.map.now front) (told c.loop-at.map front) front c.args.name.now c.loop-at.at c.args.place (omega (arith, c.loop-at-test.false, c.loop-at.auto.at-end)) (c.loop-at.invariant front)
