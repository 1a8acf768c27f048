use Rattle.std.proofs.Common.{◌≡◌}
use Rattle.ytdl.proofs.OutputLemmas.{TookFront}
use Rattle.ytdl.proofs.output.OutputSink.put.Given as goal

abbrev pub invariant-loop : goal.invariant-loop
invariant-loop g l = record {
  front : TookFront (g.W.Write.contents l.initial.self.inner) (g.W.Write.contents l.self.inner) l.bytes l.rest;
  faults : l.self.faults ≡ l.initial.self.faults;
}
