use Rattle.std.proofs.Common.{◌≡◌, ◌++◌, length}
use Rattle.std.specs.Str.{IsUtf8, chars}
use Rattle.std.specs.Str.Iter.{chars_rest}
use Rattle.std.specs.String.{string_bytes}
use Rattle.info_tree.specs.Printed.{ascii_escaped, all_by}
use Rattle.info_tree.proofs.escaping.push_ascii.Given as goal

-- with the escapes of what is left, the whole text is out
abbrev pub invariant-chars : goal.invariant-chars
invariant-chars l = record {
  out : string_bytes l.out ++ all_by ascii_escaped (chars (chars_rest l.chars)) ≡ string_bytes l.initial.out ++ all_by ascii_escaped (chars l.text);
  text : IsUtf8 (chars_rest l.chars);
}

abbrev pub decreases-chars : goal.decreases-chars
decreases-chars l = length (chars_rest l.chars)
