use Rattle.std.proofs.Common.{◌≡◌, ◌++◌, length, rules}
use Rattle.std.specs.Prelude.{encode_utf8}
use Rattle.std.specs.List.{flat_map}
use Rattle.std.specs.Str.{chars}
use Rattle.std.specs.String.{string_bytes}
use Rattle.std.proofs.lemmas.Str.{chars_past_char, IsUtf8-past_char}
use Rattle.name_text.specs.Marks.{written}
use Rattle.name_text.proofs.WrittenLemmas.{run_written, char_written, all_written}
use Rattle.name_text.proofs.marks.push_written.Goals as goal

pub runs-preserved : goal.runs-preserved
runs-preserved c =
    let f = written c.args.marks in
    let run = c.split_run.result.0.now in
    let more = c.split_run.result.1.now in
    let rest = c.as_str-rest.result.now in
    let whole = string_bytes c.args.out.now ++ flat_map f (chars c.args.text.now) in
    let ran : string_bytes c.push_str.new.self ≡ string_bytes c.runs.out ++ run = search rules in
    let marked : string_bytes c.push_mark.new.out ≡ string_bytes c.push_str.new.self ++ f c.in-Some.mark = search rules in
    let parts : more ≡ encode_utf8 c.in-Some.mark ++ rest = search rules in
    let behind = run_written f (string_bytes c.runs.out) (string_bytes c.push_str.new.self) c.runs.rest.now run more whole c.split_run.ensures.text_run c.split_run.ensures.whole
    c.split_run.ensures.plain ran c.runs.invariant.out in
    record {
      out = char_written f (string_bytes c.push_str.new.self) (string_bytes c.push_mark.new.out) more rest whole c.in-Some.mark
          (chars_past_char more rest c.in-Some.mark c.split_run.ensures.text_more parts) marked behind;
      text = IsUtf8-past_char more rest c.in-Some.mark c.split_run.ensures.text_more parts;
    }

pub returns-in_default : goal.returns-in_default
returns-in_default c =
    let f = written c.args.marks in
    let run = c.split_run.result.0.now in
    let more = c.split_run.result.1.now in
    let whole = string_bytes c.args.out.now ++ flat_map f (chars c.args.text.now) in
    let ran : string_bytes c.push_str.new.self ≡ string_bytes c.runs.out ++ run = search rules in
    let none : length more ≡ 0 = search rules in
    all_written f (string_bytes c.push_str.new.self) more whole none
    (run_written f (string_bytes c.runs.out) (string_bytes c.push_str.new.self) c.runs.rest.now run more whole c.split_run.ensures.text_run c.split_run.ensures.whole
    c.split_run.ensures.plain ran c.runs.invariant.out)
