use Rattle.std.proofs.Common.{◌≡◌, ◌-◌, ◌++◌, take}
use Rattle.std.specs.Prelude.{encode_utf8}
use Rattle.std.specs.List.{flat_map}
use Rattle.std.specs.Str.{IsUtf8, chars}
use Rattle.std.specs.Str.Iter.{chars_rest}
use Rattle.std.specs.String.{string_bytes}
use Rattle.field_text.specs.Frame as spec
use Rattle.field_text.proofs.frame.first_chars.Given as goal

-- with what is left to take, all are out
abbrev pub invariant-loop : goal.invariant-loop
invariant-loop l = record {
  out : string_bytes l.first ++ flat_map encode_utf8 (take (l.count - l.counter) (chars (chars_rest l.chars))) ≡ spec.first_chars l.count l.text;
  text : IsUtf8 (chars_rest l.chars);
}
