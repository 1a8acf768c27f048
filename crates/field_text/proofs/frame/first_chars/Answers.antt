use Rattle.std.proofs.Common.{◌≡◌, ◌-◌, ◌++◌, length, rules, arith, ◌∙◌}
use Rattle.std.specs.Prelude.{encode_utf8}
use Rattle.std.specs.Str.Iter.{chars_rest}
use Rattle.std.specs.String.{string_bytes}
use Rattle.std.proofs.lemmas.Str.{chars_past_char, IsUtf8-past_char}
use Rattle.field_text.specs.Frame as spec
use Rattle.field_text.proofs.CharLemmas.{char_taken, none_left, all_taken}
use Rattle.field_text.proofs.frame.first_chars.Goals as goal

pub loop-preserved : goal.loop-preserved
loop-preserved c =
    let bs = chars_rest c.loop.chars in
    let rest = chars_rest c.next.new.self in
    let parts : bs ≡ encode_utf8 c.in-Some.char ++ rest = search rules in
    record {
      out = char_taken (string_bytes c.loop.first) (string_bytes c.push.new.self) bs rest (spec.first_chars c.args.count c.args.text.now) c.in-Some.char c.args.count c.loop.counter (omega arith)
          (chars_past_char bs rest c.in-Some.char c.loop.invariant.text parts) c.in_ok-push.ensures.bytes c.loop.invariant.out;
      text = IsUtf8-past_char bs rest c.in-Some.char c.loop.invariant.text parts;
    }

pub returns : goal.returns
returns c = c.from-2.ensures ∙ all_taken (string_bytes c.loop.first) (chars_rest c.loop.chars) (spec.first_chars c.args.count c.args.text.now) c.args.count c.loop.counter (omega arith) c.loop.invariant.out

pub returns-in_default : goal.returns-in_default
returns-in_default c =
    let bs = chars_rest c.loop.chars in
    let none : length bs ≡ 0 = search rules in
    c.from.ensures ∙ none_left (string_bytes c.loop.first) bs (spec.first_chars c.args.count c.args.text.now) (c.args.count - c.loop.counter) none c.loop.invariant.out
