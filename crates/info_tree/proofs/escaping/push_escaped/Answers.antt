use Rattle.std.proofs.Common.{◌≡◌, ◌++◌, length, rules}
use Rattle.std.specs.String.{string_bytes}
use Rattle.info_tree.specs.Printed.{inside, escaped, all_by}
use Rattle.info_tree.proofs.Quoted.{only_special}
use Rattle.info_tree.proofs.Printing.{run_put, last_run}
use Rattle.info_tree.proofs.escaping.push_escaped.Goals as goal

pub returns-in_default : goal.returns-in_default
unfolding inside
returns-in_default c =
    let run = c.split_plain.result.0.now in
    let marked = c.split_plain.result.1.now in
    let put : string_bytes c.push_str.new.self ≡ string_bytes c.runs.out ++ run = search rules in
    let none : length marked ≡ 0 = only_special marked c.split_plain.ensures.special c.in_default.ensures.none in
    last_run (string_bytes c.runs.out) (string_bytes c.push_str.new.self) c.runs.rest.now run marked (string_bytes c.args.out.now ++ all_by escaped c.args.text.now)
    c.split_plain.ensures.whole c.split_plain.ensures.plain none put c.runs.invariant.out

pub runs-preserved : goal.runs-preserved
runs-preserved c =
    let run = c.split_plain.result.0.now in
    let marked = c.split_plain.result.1.now in
    let put : string_bytes c.push_str.new.self ≡ string_bytes c.runs.out ++ run = search rules in
    let last : string_bytes c.push_byte.new.out ≡ string_bytes c.push_str.new.self ++ escaped c.in-Some.byte = search rules in
    record {
      out = run_put (string_bytes c.runs.out) (string_bytes c.push_str.new.self) (string_bytes c.push_byte.new.out) c.runs.rest.now run marked c.in-Some.after.now
          (string_bytes c.args.out.now ++ all_by escaped c.args.text.now) c.in-Some.byte
          c.split_plain.ensures.whole c.split_plain.ensures.plain c.in-Some.ensures.some put last c.runs.invariant.out;
      text = c.in-Some.ensures.text;
    }
