use Rattle.std.proofs.Common.{◌≡◌, ◌≤◌, length}
use Rattle.std.specs.Str.{IsUtf8}
use Rattle.info_tree.specs.Token.{after_space}
use Rattle.info_tree.proofs.token.skip_space.Given as goal

abbrev pub invariant-loop-byte : goal.invariant-loop-byte
invariant-loop-byte l = record {
  space : after_space l.rest ≡ after_space l.text;
  len : length l.rest ≤ length l.text;
  text : IsUtf8 l.rest;
}

abbrev pub decreases-loop-byte : goal.decreases-loop-byte
decreases-loop-byte l = length l.rest
