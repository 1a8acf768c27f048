use Rattle.std.proofs.Common.{◌≡◌, ◌<◌, ◌^◌, take}
use Rattle.text_base.specs.Value.{digits_value}
use Rattle.field_text.proofs.moment.value_of.Given as goal

-- the digits so far are counted
abbrev pub invariant-loop-byte : goal.invariant-loop-byte
invariant-loop-byte l = record {
  counted : l.value ≡ digits_value (take l.byte-index l.digits);
  below : l.value < 10 ^ l.byte-index;
}
