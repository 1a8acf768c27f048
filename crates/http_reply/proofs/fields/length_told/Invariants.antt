use Rattle.std.proofs.Common.{◌≡◌, drop}
use Rattle.http_reply.specs.Fields.{fields_at, length_told}
use Rattle.http_reply.proofs.FieldLemmas.{told_after, lengths}
use Rattle.http_reply.proofs.fields.length_told.Given as goal

abbrev pub invariant-loop-header : goal.invariant-loop-header
invariant-loop-header l =
    length_told (fields_at l.bytes l.headers) ≡ told_after l.told (lengths (fields_at l.bytes (drop l.header-index l.headers)))
