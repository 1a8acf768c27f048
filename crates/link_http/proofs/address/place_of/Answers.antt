use Rattle.link_http.proofs.RequestLemmas.{host_clean}
use Rattle.link_http.proofs.address.place_of.Goals as goal

pub returns-clause-clean : goal.returns-clause-clean
returns-clause-clean c = host_clean c.args.url.now c.in-Some.host.now c.port.ensures.valid c.in-Some.ensures
