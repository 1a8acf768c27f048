use Rattle.std.specs.String.{string_bytes}
use Rattle.info_tree.proofs.StringLemmas.{pushed_char}
use Rattle.info_tree.proofs.decoded.Decoded.push_escape.Goals as goal

pub returns-in_ok-push-in-Char : goal.returns-in_ok-push-in-Char
returns-in_ok-push-in-Char c = λ p more is.
    pushed_char (string_bytes c.args.self.now.text) (string_bytes c.flush.new.self.text) (string_bytes c.push.new.self) c.in-Char.char p more
    c.args.self.now.high c.flush.new.self.high (rw c.in-Char.is at is) c.in_ok-flush-in-Char.ensures.text c.in_ok-push-in-Char.ensures.bytes c.in_ok-flush-in-Char.ensures.high
