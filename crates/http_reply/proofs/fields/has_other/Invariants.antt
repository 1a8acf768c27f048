use Rattle.std.proofs.Common.{◌≡◌, drop}
use Rattle.http_reply.specs.Fields.{fields_at, has_other}
use Rattle.http_reply.proofs.fields.has_other.Given as goal

abbrev pub invariant-loop-header : goal.invariant-loop-header
invariant-loop-header l =
    has_other l.name l.value (fields_at l.bytes l.headers)
    ≡ has_other l.name l.value (fields_at l.bytes (drop l.header-index l.headers))
