use Rattle.std.proofs.Common.{◌≡◌, drop}
use Rattle.http_reply.specs.Fields.{fields_at, has_no_length_but}
use Rattle.http_reply.proofs.fields.has_no_length_but.Given as goal

abbrev pub invariant-loop-header : goal.invariant-loop-header
invariant-loop-header l =
    has_no_length_but l.size (fields_at l.bytes l.headers)
    ≡ has_no_length_but l.size (fields_at l.bytes (drop l.header-index l.headers))
