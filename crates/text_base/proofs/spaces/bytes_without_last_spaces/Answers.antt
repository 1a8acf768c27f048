use Rattle.std.proofs.Common.{arith, sym, ◌∙◌}
use Rattle.text_base.proofs.SpaceLemmas.{space_at_end, kept_at_end, none_left}
use Rattle.text_base.proofs.spaces.bytes_without_last_spaces.Goals as goal
use Rattle.text_base.proofs.spaces.bytes_without_last_spaces.Goals.{then-loop-end-test+else-bytes-end-eq32, else-loop-end-test}

pub loop-end-preserved : goal.loop-end-preserved
loop-end-preserved c = (
  omega (arith, c.loop-end.invariant.0),
  c.loop-end.invariant.1 ∙ space_at_end c.args.bytes.now c.loop-end.end c.loop-end-test.true c.loop-end.invariant.0 c.if-bytes-end-eq32.true,
)

pub returns : goal.returns
returns c =
    elim c.loop-end-test.branch [
      | then-loop-end-test+else-bytes-end-eq32 w ↦ sym (c.loop-end.invariant.1 ∙ kept_at_end c.args.bytes.now c.loop-end.end w.loop-end-test.true c.loop-end.invariant.0 w.if-bytes-end-eq32.false)
      | else-loop-end-test w ↦ sym (c.loop-end.invariant.1 ∙ none_left c.args.bytes.now c.loop-end.end w.loop-end-test.false)
    ]
