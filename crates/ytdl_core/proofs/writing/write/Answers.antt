use Rattle.std.proofs.Common.{◌∙◌, take, drop, ◌+◌, ◌++◌, arith, refl}
use Rattle.std.specs.Prelude.{Err}
use Rattle.std.proofs.lemmas.Result.{err_from_is_err_and}
use Rattle.std.specs.String.{string_bytes}
use Rattle.ytdl_core.specs.declared.run_fault.Which.TheVariants as which
use Rattle.ytdl_core.specs.Lines.{all_to}
use Rattle.ytdl_core.specs.Chunks.{script_of}
use Rattle.ytdl_core.proofs.FaultLemmas.{sink_fails_since}
use Rattle.ytdl_core.proofs.ScriptLemmas.{script_at, script_up_to, sends_more, some_more, some_front}
use Rattle.ytdl_core.proofs.writing.write.Goals as goal

pub loop-chunk-preserved : goal.loop-chunk-preserved
loop-chunk-preserved g c =
    let chunks = c.args.chunks.now in
    let k = c.loop-chunk.chunk-index in
    let chunk = c.chunk-item.result in
    let i = c.loop-chunk.invariant in
    let h = c.in_ok-put.ensures in
    record {
      sends = rw (script_up_to chunks k chunk c.loop-chunk-test.true c.chunk-item.is)
          (sends_more (script_of (take k chunks)) (all_to chunk.which (string_bytes chunk.bytes))
          (g.O.Sink.written c.args.out.now) (g.O.Sink.written c.loop-chunk.out) (g.O.Sink.written c.put.new.out)
          (g.E.Sink.written c.args.err.now) (g.E.Sink.written c.loop-chunk.err) (g.E.Sink.written c.put.new.err) i.sends h.whole);
      kept_out = h.out.kept refl ∙ i.kept_out;
      kept_err = h.err.kept refl ∙ i.kept_err;
      later_memory = omega (arith, i.later_memory, h.later);
      stays_out = λ s. h.stays_out (i.stays_out s);
      stays_err = λ s. h.stays_err (i.stays_err s);
    }

pub returns-in_err-put-clause-front : goal.returns-in_err-put-clause-front
returns-in_err-put-clause-front g c =
    let e = err_from_is_err_and c.from_residual.result c.from_residual.ensures.1 in
    let chunks = c.args.chunks.now in
    let k = c.loop-chunk.chunk-index in
    let chunk = c.chunk-item.result in
    let out = g.O.Sink.written c.args.out.now in
    let err = g.E.Sink.written c.args.err.now in
    let out_now = g.O.Sink.written c.put.new.out in
    let err_now = g.E.Sink.written c.put.new.err in
    rw (e.1, script_at chunks k chunk c.loop-chunk-test.true c.chunk-item.is)
    (some_front (script_of (take k chunks) ++ all_to chunk.which (string_bytes chunk.bytes)) (script_of (drop (k + 1) chunks)) out out_now err err_now
    (some_more (script_of (take k chunks)) (all_to chunk.which (string_bytes chunk.bytes)) out (g.O.Sink.written c.loop-chunk.out) out_now
    err (g.E.Sink.written c.loop-chunk.err) err_now c.loop-chunk.invariant.sends c.in_err-put.ensures.front))

pub returns-in_err-put-clause-out : goal.returns-in_err-put-clause-out
returns-in_err-put-clause-out g c =
    let e = err_from_is_err_and c.from_residual.result c.from_residual.ensures.1 in
    rw (e.1, e.2)
    (sink_fails_since which.Out (g.O.Sink.is_steady c.args.out.now) (g.O.Sink.is_steady c.loop-chunk.out)
    (g.O.Sink.faults c.args.out.now) (g.O.Sink.faults c.loop-chunk.out) (g.O.Sink.faults c.put.new.out) (Err c.in_err-put.field-0.0)
    c.loop-chunk.invariant.kept_out c.loop-chunk.invariant.stays_out c.in_err-put.ensures.out)

pub returns-in_err-put-clause-err : goal.returns-in_err-put-clause-err
returns-in_err-put-clause-err g c =
    let e = err_from_is_err_and c.from_residual.result c.from_residual.ensures.1 in
    rw (e.1, e.2)
    (sink_fails_since which.Err (g.E.Sink.is_steady c.args.err.now) (g.E.Sink.is_steady c.loop-chunk.err)
    (g.E.Sink.faults c.args.err.now) (g.E.Sink.faults c.loop-chunk.err) (g.E.Sink.faults c.put.new.err) (Err c.in_err-put.field-0.0)
    c.loop-chunk.invariant.kept_err c.loop-chunk.invariant.stays_err c.in_err-put.ensures.err)

pub returns-in_err-put-clause-later : goal.returns-in_err-put-clause-later
returns-in_err-put-clause-later g c = omega (arith, c.loop-chunk.invariant.later_memory, c.in_err-put.ensures.later)
