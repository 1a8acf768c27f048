use Rattle.std.proofs.Common.{◌≡◌, ◌+◌, drop}
use Rattle.std.specs.List.{prefix_len}
use Rattle.http_reply.specs.Chunked.{is_in_line}
use Rattle.http_reply.proofs.chunk_line.line_len.Given as goal

abbrev pub invariant-loop-i : goal.invariant-loop-i
invariant-loop-i l = prefix_len is_in_line l.bytes ≡ l.i + prefix_len is_in_line (drop l.i l.bytes)
