use Rattle.std.proofs.Common.{length}
use Rattle.std.specs.Str.{IsUtf8}
use Rattle.info_tree.proofs.ReadingLemmas.{SoFar, state_of}
use Rattle.info_tree.proofs.reader.read_text.Given as goal

abbrev pub invariant-loop-rest : goal.invariant-loop-rest
invariant-loop-rest l = record {
  read : SoFar l.text (state_of l.frames.items l.next) l.rest;
  text : IsUtf8 l.rest;
}

abbrev pub decreases-loop-rest : goal.decreases-loop-rest
decreases-loop-rest l = length l.rest
