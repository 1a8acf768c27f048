use Rattle.std.proofs.Common.{◌≡◌, ◌++◌, length, rules}
use Rattle.std.specs.Prelude.{encode_utf8}
use Rattle.std.specs.List.{flat_map}
use Rattle.std.specs.Str.{chars}
use Rattle.std.specs.Str.Iter.{chars_rest}
use Rattle.std.specs.String.{string_bytes}
use Rattle.std.proofs.lemmas.Str.{chars_past_char, IsUtf8-past_char}
use Rattle.name_text.specs.Clean.{restricted}
use Rattle.name_text.proofs.WrittenLemmas.{char_written, all_written}
use Rattle.name_text.proofs.cleaning.push_all_restricted.Goals as goal

pub chars-preserved : goal.chars-preserved
chars-preserved c =
    let bs = chars_rest c.chars.chars in
    let rest = chars_rest c.next.new.self in
    let parts : bs ≡ encode_utf8 c.in-Some.char ++ rest = search rules in
    let put : string_bytes c.push_in_restricted.new.out ≡ string_bytes c.chars.out ++ restricted c.in-Some.char = search rules in
    record {
      out = char_written restricted (string_bytes c.chars.out) (string_bytes c.push_in_restricted.new.out) bs rest
          (string_bytes c.args.out.now ++ flat_map restricted (chars c.args.text.now))
          c.in-Some.char (chars_past_char bs rest c.in-Some.char c.chars.invariant.text parts) put c.chars.invariant.out;
      text = IsUtf8-past_char bs rest c.in-Some.char c.chars.invariant.text parts;
    }

pub returns : goal.returns
returns c =
    let bs = chars_rest c.chars.chars in
    let none : length bs ≡ 0 = search rules in
    all_written restricted (string_bytes c.chars.out) bs (string_bytes c.args.out.now ++ flat_map restricted (chars c.args.text.now)) none c.chars.invariant.out
