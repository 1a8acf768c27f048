use Rattle.std.proofs.Common.{◌≡◌, ℕ, ◌<◌, take, arith, false}
use Rattle.std.specs.Prelude.{slice_index}
use Rattle.std.proofs.lemmas.Grind.{common_steps}
use Rattle.text_base.specs.Scan.{is_json_special}
use Rattle.info_tree.proofs.Quoted.{plain_pieces}
use Rattle.info_tree.proofs.ascii.split_plain.Goals as goal

pub returns-clause-plain : goal.returns-clause-plain
returns-clause-plain c =
    let end = c.first_json_special-end.result in
    let front : c.range.result.now ≡ take end c.args.text.now = grind (arith, common_steps) in
    let plain : (k : ℕ) → k < end → is_json_special (slice_index c.args.text.now k) ≡ false =
    λ k l. rw c.as_bytes.ensures.value at (c.first_json_special-end.ensures.before k (omega arith) l) in
    rw front (plain_pieces c.args.text.now end plain)
