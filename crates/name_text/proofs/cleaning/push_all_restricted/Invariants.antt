use Rattle.std.proofs.Common.{◌≡◌, ◌++◌, length}
use Rattle.std.specs.List.{flat_map}
use Rattle.std.specs.Str.{IsUtf8, chars}
use Rattle.std.specs.Str.Iter.{chars_rest}
use Rattle.std.specs.String.{string_bytes}
use Rattle.name_text.specs.Clean.{restricted}
use Rattle.name_text.proofs.cleaning.push_all_restricted.Given as goal

-- with what is left, the whole text is out
abbrev pub invariant-chars : goal.invariant-chars
invariant-chars l = record {
  out : string_bytes l.out ++ flat_map restricted (chars (chars_rest l.chars)) ≡ string_bytes l.initial.out ++ flat_map restricted (chars l.text);
  text : IsUtf8 (chars_rest l.chars);
}

abbrev pub decreases-chars : goal.decreases-chars
decreases-chars l = length (chars_rest l.chars)
