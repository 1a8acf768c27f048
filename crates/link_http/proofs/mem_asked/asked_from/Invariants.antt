use Rattle.std.proofs.Common.{◌≡◌, drop}
use Rattle.link_http.specs.Asked.{asked_from}
use Rattle.link_http.proofs.mem_asked.asked_from.Given as goal

abbrev pub invariant-loop-i : goal.invariant-loop-i
invariant-loop-i l = asked_from l.request ≡ asked_from (drop l.i l.request)
