use Rattle.std.proofs.Common.{length, ◌∙◌, ap, arith}
use Rattle.component_turn.proofs.StemLemmas.{stems_many}
use Rattle.component_turn.proofs.room.make_room.Goals as goal

pub invariant_of-result : goal.invariant_of-result
invariant_of-result g c =
    let many = ap length c.in_ok-stems.ensures ∙ stems_many c.args.component.now 0 c.args.count in
    record {
      none = (c.in_ok-with_capacity.ensures.items, c.in_ok-with_capacity-2.ensures.items, c.in_ok-with_capacity-3.ensures.items);
      lane_room = omega (arith, many, c.in_ok-with_capacity.ensures.capacity);
      left_room = omega (arith, many, c.in_ok-with_capacity-2.ensures.capacity);
      back_room = omega (arith, many, c.in_ok-with_capacity-3.ensures.capacity);
    }
