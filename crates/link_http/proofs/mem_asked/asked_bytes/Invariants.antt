use Rattle.std.proofs.Common.{◌≡◌, drop}
use Rattle.link_http.specs.Memory.{asked_bytes, place_of}
use Rattle.link_http.proofs.mem_asked.asked_bytes.Given as goal

abbrev pub invariant-loop-resource : goal.invariant-loop-resource
invariant-loop-resource l =
    asked_bytes l.resources (place_of l.dial) l.request
    ≡ asked_bytes (drop l.resource-index l.resources) (place_of l.dial) l.request
