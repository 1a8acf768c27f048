use Rattle.std.proofs.Common.{refl, inr, arith, Ok}
use Rattle.link_http.proofs.AddressLemmas.{address_long, address_read, address_refused}
use Rattle.link_http.proofs.address.read_url.Goals as goal

pub returns-then-text-gt-LONGEST-clause-fault : goal.returns-then-text-gt-LONGEST-clause-fault
returns-then-text-gt-LONGEST-clause-fault c = inr (refl, address_long c.args.text.now (omega arith))

pub returns-in-Ok-clause-read : goal.returns-in-Ok-clause-read
returns-in-Ok-clause-read c = address_read c.args.text.now (Ok c.in-Ok.url) (omega arith) c.in-Ok.ensures

pub returns-in-Err-clause-fault : goal.returns-in-Err-clause-fault
returns-in-Err-clause-fault c = address_refused c.args.text.now c.in-Err.error c.refused.result (omega arith) c.in-Err.ensures c.refused.ensures
