use Rattle.std.proofs.Common.{◌≡◌, ◌≤◌, take}
use Rattle.std.specs.Prelude.{true}
use Rattle.ytdl_core.specs.Lines.{Sends}
use Rattle.ytdl_core.specs.Chunks.{script_of}
use Rattle.ytdl_core.proofs.writing.write.Given as goal

abbrev pub invariant-loop-chunk : goal.invariant-loop-chunk
invariant-loop-chunk g l = record {
  sends : Sends (script_of (take l.chunk-index l.chunks)) (g.O.Sink.written l.fn.out) (g.O.Sink.written l.out)
      (g.E.Sink.written l.fn.err) (g.E.Sink.written l.err);
  kept_out : g.O.Sink.faults l.out ≡ g.O.Sink.faults l.fn.out;
  kept_err : g.E.Sink.faults l.err ≡ g.E.Sink.faults l.fn.err;
  later_memory : g.E.Sink.refusals l.fn.err ≤ g.E.Sink.refusals l.err;
  stays_out : g.O.Sink.is_steady l.fn.out ≡ true → g.O.Sink.is_steady l.out ≡ true;
  stays_err : g.E.Sink.is_steady l.fn.err ≡ true → g.E.Sink.is_steady l.err ≡ true;
}
