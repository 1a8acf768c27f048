use Rattle.std.proofs.Common.{◌∙◌}
use Rattle.ytdl_core.proofs.ScriptLemmas.{sends_out, sends_err, some_out, some_err}
use Rattle.std.specs.String.{string_bytes}
use Rattle.ytdl_core.proofs.writing.put.Goals as goal

pub returns-in-Ok-clause-whole : goal.returns-in-Ok-clause-whole
returns-in-Ok-clause-whole g c =
    let chunk = c.args.chunk.now in
    sends_out chunk.which (string_bytes chunk.bytes) c.as_bytes-bytes.result.now (g.O.Sink.written c.args.out.now) (g.O.Sink.written c.put.new.self) (g.E.Sink.written c.args.err.now) c.in-Out.is
    (c.as_bytes-bytes.ensures.value ∙ c.as_str.ensures.value) c.in-Ok.ensures.whole

pub returns-in-Err-Failed-clause-front : goal.returns-in-Err-Failed-clause-front
returns-in-Err-Failed-clause-front g c =
    let chunk = c.args.chunk.now in
    some_out chunk.which (string_bytes chunk.bytes) c.as_bytes-bytes.result.now (g.O.Sink.written c.args.out.now) (g.O.Sink.written c.put.new.self) (g.E.Sink.written c.args.err.now) c.in-Out.is
    (c.as_bytes-bytes.ensures.value ∙ c.as_str.ensures.value) c.in-Err-Failed.ensures.front

pub returns-in-Err-OutOfMemory-clause-front : goal.returns-in-Err-OutOfMemory-clause-front
returns-in-Err-OutOfMemory-clause-front g c =
    let chunk = c.args.chunk.now in
    some_out chunk.which (string_bytes chunk.bytes) c.as_bytes-bytes.result.now (g.O.Sink.written c.args.out.now) (g.O.Sink.written c.put.new.self) (g.E.Sink.written c.args.err.now) c.in-Out.is
    (c.as_bytes-bytes.ensures.value ∙ c.as_str.ensures.value) c.in-Err-OutOfMemory.ensures.front

pub returns-in-Ok-put-clause-whole : goal.returns-in-Ok-put-clause-whole
returns-in-Ok-put-clause-whole g c =
    let chunk = c.args.chunk.now in
    sends_err chunk.which (string_bytes chunk.bytes) c.as_bytes-bytes.result.now (g.O.Sink.written c.args.out.now) (g.E.Sink.written c.args.err.now) (g.E.Sink.written c.put-in-Err.new.self) c.in-Err.is
    (c.as_bytes-bytes.ensures.value ∙ c.as_str.ensures.value) c.in-Ok-put.ensures.whole

pub returns-in-Err-Failed-put-clause-front : goal.returns-in-Err-Failed-put-clause-front
returns-in-Err-Failed-put-clause-front g c =
    let chunk = c.args.chunk.now in
    some_err chunk.which (string_bytes chunk.bytes) c.as_bytes-bytes.result.now (g.O.Sink.written c.args.out.now) (g.E.Sink.written c.args.err.now) (g.E.Sink.written c.put-in-Err.new.self) c.in-Err.is
    (c.as_bytes-bytes.ensures.value ∙ c.as_str.ensures.value) c.in-Err-Failed-put.ensures.front

pub returns-in-Err-OutOfMemory-put-clause-front : goal.returns-in-Err-OutOfMemory-put-clause-front
returns-in-Err-OutOfMemory-put-clause-front g c =
    let chunk = c.args.chunk.now in
    some_err chunk.which (string_bytes chunk.bytes) c.as_bytes-bytes.result.now (g.O.Sink.written c.args.out.now) (g.E.Sink.written c.args.err.now) (g.E.Sink.written c.put-in-Err.new.self) c.in-Err.is
    (c.as_bytes-bytes.ensures.value ∙ c.as_str.ensures.value) c.in-Err-OutOfMemory-put.ensures.front
