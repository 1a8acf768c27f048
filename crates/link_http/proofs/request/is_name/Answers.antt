use Rattle.std.proofs.Common.{refl}
use Rattle.link_http.proofs.RequestLemmas.{a_name, no_name}
use Rattle.link_http.proofs.request.is_name.Goals as goal
use Rattle.link_http.proofs.request.is_name.Goals.{in-Ok, in-Err-Invalid, in-Err-OutOfMemory}

pub returns : goal.returns
returns c = elim c.match-from_bytes.branch [
  | in-Ok w ↦ rw w.result-is (a_name c.args.bytes.now (λ none. let e = w.in-Ok.ensures.invalid.1 none in absurd (cc)))
  | in-Err-Invalid w ↦
      let said = rw w.in-Err-Invalid.field-0-is at w.in-Err-Invalid.ensures in
      rw w.result-is (no_name c.args.bytes.now (said.invalid.0 refl))
  | in-Err-OutOfMemory w ↦ rw w.result-is tt
]
