use Rattle.std.proofs.Common.{◌≡◌, ◌++◌, drop}
use Rattle.link_http.specs.Request.{fields_text}
use Rattle.link_http.proofs.request.put_fields.Given as goal

abbrev pub invariant-loop-header : goal.invariant-loop-header
invariant-loop-header l = l.text.items ++ fields_text (drop l.header-index l.headers) ≡ l.fn.text.items ++ fields_text l.headers
