use Rattle.std.proofs.Common.{◌+◌, arith, sym, ap, ◌∙◌}
use Rattle.std.proofs.lemmas.List.{length-take-le}
use Rattle.http_reply.specs.Chunked.{line_read}
use Rattle.http_reply.proofs.ChunkedLemmas.{chunk_line-long, chunk_line-open, chunk_line-read}
use Rattle.http_reply.proofs.chunk_line.read_line.Goals as goal

pub returns-then-len-ge-LINE_ROOM : goal.returns-then-len-ge-LINE_ROOM
returns-then-len-ge-LINE_ROOM c = sym (chunk_line-long c.args.bytes.now (omega arith))

pub returns-then-len-bytes : goal.returns-then-len-bytes
returns-then-len-bytes c = sym (chunk_line-open c.args.bytes.now (omega arith) (omega arith))

pub slice_bounds-read_size-end : goal.slice_bounds-read_size-end
slice_bounds-read_size-end c = sym (length-take-le (c.line_len-len.result + 1) c.args.bytes.now (omega arith))

pub returns-in-Some : goal.returns-in-Some
returns-in-Some c =
    ap (line_read (c.line_len-len.result + 1)) c.in-Some.ensures
    ∙ sym (chunk_line-read c.args.bytes.now c.line_len-len.result c.line_len-len.ensures.value (omega arith) (omega arith))

pub returns-in-None : goal.returns-in-None
returns-in-None c =
    ap (line_read (c.line_len-len.result + 1)) c.in-None.ensures
    ∙ sym (chunk_line-read c.args.bytes.now c.line_len-len.result c.line_len-len.ensures.value (omega arith) (omega arith))
