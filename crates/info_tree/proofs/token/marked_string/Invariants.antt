use Rattle.std.proofs.Common.{length}
use Rattle.std.specs.Str.{IsUtf8}
use Rattle.std.specs.String.{string_bytes}
use Rattle.info_tree.proofs.Quoted.{ReadSo}
use Rattle.info_tree.proofs.token.marked_string.Given as goal

abbrev pub invariant-pieces : goal.invariant-pieces
invariant-pieces l = record {
  read : ReadSo l.text (string_bytes l.decoded.text) l.decoded.high l.rest;
  text : IsUtf8 l.rest;
}

abbrev pub decreases-pieces : goal.decreases-pieces
decreases-pieces l = length l.rest
