use Rattle.std.proofs.Common.{sym, ◌∙◌, arith, take}
use Rattle.job_names.proofs.IndexLemmas.{piece_more, piece_not, piece_end, none_first}
use Rattle.job_names.proofs.index.NameIndex.piece_at.Goals as goal
use Rattle.job_names.proofs.index.NameIndex.piece_at.Goals.{then-is_piece_front, else-is_piece_front}

pub loop-at-init : goal.loop-at-init
loop-at-init c = λ log is. sym (none_first log)

pub loop-at-preserved : goal.loop-at-preserved
loop-at-preserved c = elim c.if-is_piece_front.branch [
  | then-is_piece_front w ↦ λ log is.
      w.first-is ∙ w.least-first.ensures
      ∙ piece_more c.loop-at.first w.place_of.result log c.args.name.now c.loop-at.at is.ascending (c.loop-at.invariant log is) (sym c.is_piece_front.ensures ∙ w.if-is_piece_front.true)
      (w.place_of.ensures ∙ is.components (take c.loop-at.at c.args.name.now))
  | else-is_piece_front w ↦ λ log is.
      w.first-is ∙ piece_not c.loop-at.first log c.args.name.now c.loop-at.at (c.loop-at.invariant log is) (sym c.is_piece_front.ensures ∙ w.if-is_piece_front.false)
]

pub returns : goal.returns
returns c = λ log is. piece_end c.loop-at.first log c.args.name.now c.loop-at.at (omega (arith, c.loop-at-test.false, c.loop-at.auto.at-end)) (c.loop-at.invariant log is)
