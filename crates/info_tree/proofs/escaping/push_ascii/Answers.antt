use Rattle.std.proofs.Common.{◌≡◌, ◌++◌, length, rules}
use Rattle.std.specs.Prelude.{encode_utf8}
use Rattle.std.specs.Str.{chars}
use Rattle.std.specs.Str.Iter.{chars_rest}
use Rattle.std.specs.String.{string_bytes}
use Rattle.std.proofs.lemmas.Str.{chars_past_char, IsUtf8-past_char}
use Rattle.info_tree.specs.Printed.{inside, ascii_escaped, all_by}
use Rattle.info_tree.proofs.Printing.{char_put, no_char_left}
use Rattle.info_tree.proofs.escaping.push_ascii.Goals as goal

pub chars-preserved : goal.chars-preserved
chars-preserved c =
    let bs = chars_rest c.chars.chars in
    let rest = chars_rest c.next.new.self in
    let parts : bs ≡ encode_utf8 c.in-Some.char ++ rest = search rules in
    let put : string_bytes c.push_char.new.out ≡ string_bytes c.chars.out ++ ascii_escaped c.in-Some.char = search rules in
    record {
      out = char_put ascii_escaped (string_bytes c.chars.out) (string_bytes c.push_char.new.out) bs rest (string_bytes c.args.out.now ++ all_by ascii_escaped (chars c.args.text.now))
          c.in-Some.char (chars_past_char bs rest c.in-Some.char c.chars.invariant.text parts) put c.chars.invariant.out;
      text = IsUtf8-past_char bs rest c.in-Some.char c.chars.invariant.text parts;
    }

pub returns : goal.returns
unfolding inside
returns c =
    let bs = chars_rest c.chars.chars in
    let none : length bs ≡ 0 = search rules in
    no_char_left ascii_escaped (string_bytes c.chars.out) bs (string_bytes c.args.out.now ++ all_by ascii_escaped (chars c.args.text.now)) none c.chars.invariant.out
