use Rattle.std.proofs.Common.{◌∙◌, arith, lit≤}
use Rattle.store_tests.proofs.lanes.a_lane_promises_at_marks.Goals as goal

pub take_each-requires-clause-part : goal.take_each-requires-clause-part
take_each-requires-clause-part g c = c.in_ok-lane.ensures.part

pub take_each-requires-clause-room : goal.take_each-requires-clause-room
take_each-requires-clause-room g c = omega (arith, c.in_ok-lane.ensures.small)

pub take_each-requires-clause-short : goal.take_each-requires-clause-short
take_each-requires-clause-short g c = lit≤ tt

pub take_each-requires-2-clause-part : goal.take_each-requires-2-clause-part
take_each-requires-2-clause-part g c = c.take_each.ensures.part

pub take_each-requires-2-clause-room : goal.take_each-requires-2-clause-room
take_each-requires-2-clause-room g c = omega (arith, c.in_ok-lane.ensures.small, c.take_each.ensures.size)

pub take_each-requires-2-clause-short : goal.take_each-requires-2-clause-short
take_each-requires-2-clause-short g c = lit≤ tt

pub checkpoint-requires : goal.checkpoint-requires
checkpoint-requires g c = c.take_each-2.ensures.part

pub finish-requires : goal.finish-requires
finish-requires g c = c.checkpoint.ensures.taken.complete ∙ c.take_each-2.ensures.part
