use Rattle.std.proofs.Common.{◌≡◌, ◌≤◌, ◌<◌, ◌^◌, ◌++◌}
use Rattle.std.specs.String.{string_bytes}
use Rattle.text_base.specs.NumberText.{padded}
use Rattle.field_text.proofs.digits.push_padded.Given as goal

-- what is left of the number has this many digits, which are still to be appended
abbrev pub invariant-loop-places : goal.invariant-loop-places
invariant-loop-places l = record {
  few : l.places ≤ 9;
  below : l.rest < 10 ^ l.places;
  same_text : string_bytes l.out ++ padded l.places l.rest ≡ string_bytes l.initial.out ++ padded l.initial.places l.initial.rest;
}

abbrev pub decreases-loop-places : goal.decreases-loop-places
decreases-loop-places l = l.places
