use Rattle.std.proofs.Common.{◌≡◌, ◌∙◌, sym, ap, arith, length}
use Rattle.std.specs.List.{slice_get}
use Rattle.keep_store.specs.Seen.{lane_seen}
use Rattle.frag_crew.proofs.CrewLemmas.{ready_more}
use Rattle.link_tests.proofs.fetches.push_lane.Goals as goal

pub returns-clause-ready : goal.returns-clause-ready
returns-clause-ready c k lane at =
    let lanes = c.args.lanes.now in
    let opened = c.in-Ok.ensures.opened in
    let number : (lane_seen c.in-Ok.lane).number ≡ length lanes.items = omega (arith, opened.piece, c.len.ensures, lanes.ok.0) in
    ready_more lanes.items c.in-Ok.lane c.requires number (record { ready = opened.ready; promised = opened.promised }) k lane
    (sym (ap (λ l. slice_get l k) c.in_ok-push.ensures.items) ∙ at)
