use Rattle.std.proofs.Common.{◌<◌, length, rules}
use Rattle.std.specs.String.{string_bytes}
use Rattle.info_tree.proofs.StringLemmas.{pushed_plain}
use Rattle.info_tree.proofs.decoded.Decoded.push_plain.Goals as goal

pub returns-in_ok-push_str : goal.returns-in_ok-push_str
returns-in_ok-push_str c = λ more.
    let some : 0 < length c.args.plain.now = search rules in
    pushed_plain (string_bytes c.args.self.now.text) (string_bytes c.flush.new.self.text) (string_bytes c.push_str.new.self) c.args.plain.now more
    c.args.self.now.high c.flush.new.self.high some c.in_ok-flush.ensures.text c.in_ok-push_str.ensures.bytes c.in_ok-flush.ensures.high
