use Rattle.std.proofs.Common.{List, sym, ◌∙◌, subst}
use Rattle.claim_crew.specs.Claimed.{joined_all}
use Rattle.claim_crew.specs.Rule.{Settled}
use Rattle.claim_crew.proofs.SeatLemmas.{ends}
use Rattle.claim_crew.proofs.ClaimedLemmas.{told}
use Rattle.claim_crew.proofs.claims.run.Goals as goal

pub returns : goal.returns
returns g c =
    let d = c.work_all.ensures.done in
    let xs = c.args.table.shared.key.items.value.items in
    let ys = c.close_with.result.slots.items in
    let fails = g.W.Task.fails in
    let settled : Settled fails xs ys c.work_all.new.seat.me.0.log = ends fails xs ys _ _ _ _ (d.workers_are ∙ sym c.requires.workers.1) d.none_claimed d.is_finished c.close_with.ensures.values.2 in
    told (g.W.Task.does c.args.task.now) fails xs _ _ _ d.logs
    (subst (λ (l : List g.row.T.Denot). Settled fails xs l (joined_all d.logs)) (sym c.collect.ensures) (subst (Settled fails xs ys) d.log_is settled)) d.did d.last
