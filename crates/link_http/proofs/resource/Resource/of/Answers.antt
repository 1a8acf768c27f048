use Rattle.std.proofs.Common.{◌≡◌, ap}
use Rattle.url.proofs.InputLemmas.{list_all_from_All}
use Rattle.link_http.specs.Request.{target_of, Place}
use Rattle.link_http.specs.Sending.{is_clean}
use Rattle.link_http.proofs.RequestLemmas.{target_clean}
use Rattle.link_http.proofs.AskedLemmas.{get_line_is}
use Rattle.link_http.proofs.resource.Resource.of.Goals as goal

pub invariant_of-result : goal.invariant_of-result
invariant_of-result c =
    let url = c.in-Ok.url in
    let host = c.in-Ok-place_of.host.now in
    let same : c.in_ok-dial.dial.host ≡ host = ap (λ (p : Place). p.host) c.in_ok-dial.ensures in
    record {
      host = rw same (list_all_from_All is_clean host c.in-Ok-place_of.ensures.clean);
      one_line = rw (c.in_ok-put_target.ensures, c.new-line.ensures.items) (get_line_is (target_of url) (target_clean url c.in-Ok-place_of.ensures.valid));
    }
