use Rattle.std.proofs.Common.{◌≡◌, ◌+◌, ◌-◌, ◌/◌, ◌++◌, [], ◌∷◌, arith, ◌∙◌, length, length-append, ap}
use Rattle.text_base.proofs.TextLemmas.{digit_of_place, text_done, text_more, no_place_left, rest_below}
use Rattle.text_base.proofs.num_printing.push_decimals.Goals as goal

pub returns-then-rest-eq0 : goal.returns-then-rest-eq0
returns-then-rest-eq0 c =
    let d = digit_of_place c.loop-rest.places c.loop-rest.rest c.pow-place.result c.loop-rest.invariant.some_left c.pow-place.ensures c.loop-rest.invariant.below in
    let a : c.push.new.self.bytes ≡ c.loop-rest.text.bytes ++ (48 + c.loop-rest.rest / c.pow-place.result) ∷ [] =
    rw c.from.ensures at (c.push.ensures.ascii (rw c.from.ensures (omega arith))) in
    text_done c.loop-rest.places c.loop-rest.rest c.pow-place.result c.loop-rest.text.bytes c.push.new.self.bytes c.loop-rest.invariant.some_left c.pow-place.ensures a c.if-rest-eq0.true ∙ c.loop-rest.invariant.same_text

pub loop-rest-preserved : goal.loop-rest-preserved
loop-rest-preserved c =
    let d = digit_of_place c.loop-rest.places c.loop-rest.rest c.pow-place.result c.loop-rest.invariant.some_left c.pow-place.ensures c.loop-rest.invariant.below in
    let a : c.push.new.self.bytes ≡ c.loop-rest.text.bytes ++ (48 + c.loop-rest.rest / c.pow-place.result) ∷ [] =
    rw c.from.ensures at (c.push.ensures.ascii (rw c.from.ensures (omega arith))) in
    let n = c.loop-rest.invariant in
    let z = no_place_left c.loop-rest.places c.loop-rest.rest c.pow-place.result n.some_left c.pow-place.ensures c.if-rest-eq0.false in
    record {
      some_left = z;
      few = omega arith;
      below = rest_below (c.loop-rest.places - 1) c.loop-rest.rest c.pow-place.result c.pow-place.ensures;
      room = (let l = ap length a in let e = length-append c.loop-rest.text.bytes ((48 + c.loop-rest.rest / c.pow-place.result) ∷ []) in omega arith);
      same_text = text_more c.loop-rest.places c.loop-rest.rest c.pow-place.result c.loop-rest.text.bytes c.push.new.self.bytes n.some_left c.pow-place.ensures a c.if-rest-eq0.false ∙ n.same_text;
    }
