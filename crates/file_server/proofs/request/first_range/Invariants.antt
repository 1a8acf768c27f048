use Rattle.std.proofs.Common.{◌≡◌, drop}
use Rattle.file_server.specs.Request.{first_range}
use Rattle.file_server.proofs.RequestLemmas.{fields_at}
use Rattle.file_server.proofs.request.first_range.Given as goal

abbrev pub invariant-loop-header : goal.invariant-loop-header
invariant-loop-header l =
    first_range (fields_at l.bytes l.headers) ≡ first_range (fields_at l.bytes (drop l.header-index l.headers))
