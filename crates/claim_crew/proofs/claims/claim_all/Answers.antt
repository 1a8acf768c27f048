use Rattle.std.proofs.Common.{◌≡◌, [], ◌∷◌, length, List, sym, ap, subst, arith}
use Rattle.atomic_table.specs.Table.{opening}
use Rattle.claim_crew.specs.Rule.{CounterInvariant, fresh}
use Rattle.claim_crew.proofs.SeatLemmas.{begins}
use Rattle.claim_crew.proofs.ClaimedLemmas.{begun}
use Rattle.claim_crew.proofs.claims.claim_all.Goals as goal

pub new-requires : goal.new-requires
new-requires g c =
    let n = c.args.workers in
    let xs = c.args.items.items in
    subst (λ (l : List g.row.T.Denot). CounterInvariant g.W.Task.fails l n (opening (0 ∷ 0 ∷ []) xs (fresh l n))) (sym (ap (λ v. v.items) c.of.ensures)) (begins g.W.Task.fails xs n c.requires.few)

pub run-requires-clause-starts : goal.run-requires-clause-starts
run-requires-clause-starts g c κs within =
    let used : length c.split_at_mut-used.result.0.now ≡ c.args.workers = omega (arith, c.split_at_mut-used.ensures.front_len, c.requires.workers) in
    begun (g.W.Task.may c.args.task.now) c.args.items.items _ c.args.workers _ _ (ap (λ v. v.items) c.of.ensures) c.in-Ok-new.ensures.ok.4 used c.requires.may
