use Rattle.std.proofs.Common.{◌≡◌, ℕ, ◌<◌, ◌≤◌, length, take, drop, get_or, min, false, arith}
use Rattle.std.proofs.lemmas.Grind.{common_steps}
use Rattle.std.proofs.lemmas.List.{get_or-take, length-take}
use Rattle.name_text.specs.Marks.{ends_run}
use Rattle.name_text.proofs.MarkLemmas.{run_stands}
use Rattle.name_text.proofs.marks.split_run.Goals as goal

pub returns : goal.returns
returns c =
    let text = c.args.text.now in
    let end = c.run_len-end.result in
    let front : c.range.result.now ≡ take end text = grind (arith, common_steps) in
    let back : c.range_from.result.now ≡ drop end text = grind (arith, common_steps) in
    let within : end ≤ length text = rw c.as_bytes.ensures.value at c.run_len-end.ensures.within in
    let plain : (k : ℕ) → k < length c.range.result.now → ends_run c.args.marks (get_or c.range.result.now k 0) ≡ false =
    λ k l. let shorter : k < min end (length text) = rw (front, length-take) at l in let short : k < end = omega arith in
    rw front (rw (get_or-take end text k 0 short) (rw c.as_bytes.ensures.value at (c.run_len-end.ensures.before k (omega arith) short))) in
    record {
      whole = grind (arith, common_steps);
      plain = run_stands c.args.marks c.range.result.now c.range.utf8 plain;
      text_run = c.range.utf8;
      text_more = c.range_from.utf8;
    }
