use Rattle.std.proofs.Common.{◌≡◌, ◌+◌, ◌-◌, ◌/◌, ◌++◌, [], ◌∷◌, ◌<◌, ◌≤◌, arith, ◌∙◌, sym}
use Rattle.std.specs.String.{string_bytes}
use Rattle.text_base.proofs.TextLemmas.{rest_below, digit_of_place}
use Rattle.field_text.proofs.DigitLemmas.{padded_more, padded_none}
use Rattle.field_text.proofs.digits.push_padded.Goals as goal

pub loop-places-preserved : goal.loop-places-preserved
loop-places-preserved c =
    let n = c.loop-places.invariant in
    let some : 1 ≤ c.loop-places.places = omega arith in
    let d = digit_of_place c.loop-places.places c.loop-places.rest c.pow-unit.result some c.pow-unit.ensures n.below in
    let a : string_bytes c.push.new.self ≡ string_bytes c.loop-places.out ++ (48 + c.loop-places.rest / c.pow-unit.result) ∷ [] =
    let low : 48 + c.loop-places.rest / c.pow-unit.result < 128 = omega arith in
    let letter = rw c.from.ensures at (c.in_ok-push.ensures.ascii (rw c.from.ensures low)) in
    rw letter at (rw c.from.ensures at c.in_ok-push.ensures.bytes) in
    record {
      few = omega arith;
      below = rest_below (c.loop-places.places - 1) c.loop-places.rest c.pow-unit.result c.pow-unit.ensures;
      same_text = padded_more c.loop-places.places c.loop-places.rest c.pow-unit.result (string_bytes c.loop-places.out) (string_bytes c.push.new.self) some c.pow-unit.ensures a ∙ n.same_text;
    }

pub returns : goal.returns
returns c = sym (padded_none c.loop-places.places c.loop-places.rest (string_bytes c.loop-places.out) c.loop-places-test.false) ∙ c.loop-places.invariant.same_text
