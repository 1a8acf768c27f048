use Rattle.std.proofs.Common.{◌≡◌, drop}
use Rattle.http_reply.specs.Fields.{fields_at, content_range}
use Rattle.http_reply.proofs.FieldLemmas.{range_after, ranges}
use Rattle.http_reply.proofs.fields.content_range.Given as goal

abbrev pub invariant-loop-header : goal.invariant-loop-header
invariant-loop-header l =
    content_range (fields_at l.bytes l.headers) ≡ range_after l.range (ranges (fields_at l.bytes (drop l.header-index l.headers)))
