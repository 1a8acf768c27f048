use Rattle.std.proofs.Common.{arith, ◌+◌}
use Rattle.text_base.specs.Scan.{is_json_special}
use Rattle.text_base.proofs.ScanLemmas.{fits_in, passed_over, found_in_block}
use Rattle.text_base.proofs.scan.first_json_special.Goals as goal

pub returns-then-place-lt-BLOCK : goal.returns-then-place-lt-BLOCK
returns-then-place-lt-BLOCK c =
    let chunk = c.in-Some.ensures.cases in
    found_in_block is_json_special c.args.bytes.now c.in-Some.block.now c.args.from c.loop-block.at c.json_special_32-place.result
    chunk.enough chunk.same c.json_special_32-place.ensures c.loop-block.invariant.0 c.loop-block.invariant.2 c.if-place-lt-BLOCK.true

pub loop-block-preserved : goal.loop-block-preserved
loop-block-preserved c =
    let chunk = c.in-Some.ensures.cases in (
      omega (arith, c.loop-block.invariant.0),
      fits_in is_json_special c.args.bytes.now c.in-Some.block.now c.args.from c.loop-block.at c.json_special_32-place.result
          chunk.enough chunk.same c.json_special_32-place.ensures c.loop-block.invariant.0 c.loop-block.invariant.2,
      passed_over is_json_special c.args.bytes.now c.in-Some.block.now c.args.from c.loop-block.at c.json_special_32-place.result
          chunk.enough chunk.same c.json_special_32-place.ensures c.loop-block.invariant.0 c.loop-block.invariant.2 (c.loop-block.at + 32) (omega (arith, c.if-place-lt-BLOCK.false)),
    )
