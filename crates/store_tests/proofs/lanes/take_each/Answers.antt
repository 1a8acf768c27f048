use Rattle.std.proofs.Common.{◌∙◌, arith}
use Rattle.keep_store.specs.Seen.{lane_seen}
use Rattle.keep_store.proofs.Runs.{has_room}
use Rattle.store_tests.proofs.lanes.take_each.Goals as goal

pub take-requires : goal.take-requires
take-requires g c = has_room (lane_seen c.loop.lane) _ c.loop.invariant.part (omega arith)

pub loop-preserved : goal.loop-preserved
loop-preserved g c = record {
  part = c.in_ok-take.ensures.taken.complete ∙ c.loop.invariant.part;
  size = omega (arith, c.loop.invariant.size, c.in_ok-take.ensures.size);
}

pub returns-in_err-take-clause-part : goal.returns-in_err-take-clause-part
returns-in_err-take-clause-part g c = c.in_err-take.ensures.part_taken.front.complete ∙ c.loop.invariant.part
