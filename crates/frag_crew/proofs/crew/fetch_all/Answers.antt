use Rattle.std.proofs.Common.{◌≡◌, ◌∙◌, ◌≤◌, length, map, sym, ap, arith}
use Rattle.std.specs.List.{slice_get}
use Rattle.frag_crew.specs.declared.slot.Slot.{Slot}
use Rattle.frag_crew.proofs.CrewLemmas.{may_fetch, written_back, fetched_by, lanes_back}
use Rattle.frag_crew.proofs.crew.fetch_all.Goals as goal

pub claim_all-requires-clause-may : goal.claim_all-requires-clause-may
claim_all-requires-clause-may g c κs within k x at =
    let many : length c.args.lanes.items ≡ length c.as_slice.result.now = omega (arith, c.requires.pieces.0, c.args.lanes.ok.0, c.args.pieces.now.ok.0, ap length c.as_slice.ensures.value) in
    may_fetch c.as_slice.result.now c.args.retries c.args.lanes.items many c.requires.retries c.requires.ready k x (sym (ap (λ l. slice_get l k) c.fill_slots.ensures.slots) ∙ at)

pub returns-in-Ok-claim_all-clause-fetched : goal.returns-in-Ok-claim_all-clause-fetched
returns-in-Ok-claim_all-clause-fetched g c =
    let dialers = c.args.dialers.now in
    let after = c.claim_all.new.hands in
    let many : length after ≡ length dialers.items = c.claim_all.auto.hands ∙ ap length c.as_mut_slice.ensures.value in
    let fits : c.args.workers ≤ length after = omega (arith, many, dialers.ok.0, c.requires.workers.2) in
    fetched_by g.D.Dialer.wire c.as_slice.result.now c.args.pieces.now.items c.args.retries c.args.lanes.items c.fill_slots.new.slots.items c.in-Ok-claim_all.back.items
    c.empty_slots.new.lanes.items c.empty_slots.new.ends.items c.args.workers c.as_mut_slice.result.now dialers.items after _
    c.as_slice.ensures.value c.as_mut_slice.ensures.value (written_back c.args.workers after dialers.items fits (omega (arith, many)) dialers.len dialers.ok.0)
    c.fill_slots.ensures.slots c.empty_slots.ensures.lanes c.empty_slots.ensures.ends c.in-Ok-claim_all.ensures.done

pub returns-in-Err-clause-refused : goal.returns-in-Err-clause-refused
returns-in-Err-clause-refused g c =
    c.empty_slots-in-Err.ensures.lanes ∙ (ap (map (λ (s : Slot g.row.F.Denot g.F.Folder). s.lane)) (c.in-Err.ensures.refused ∙ c.fill_slots.ensures.slots) ∙ lanes_back c.args.lanes.items)
