use Rattle.std.proofs.Common.{◌≡◌, drop}
use Rattle.http_reply.specs.Fields.{fields_at, is_chunked}
use Rattle.http_reply.proofs.fields.is_chunked.Given as goal

abbrev pub invariant-loop-header : goal.invariant-loop-header
invariant-loop-header l =
    is_chunked (fields_at l.bytes l.headers) ≡ is_chunked (fields_at l.bytes (drop l.header-index l.headers))
