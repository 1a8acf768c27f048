use Rattle.std.proofs.Common.{◌≡◌, ℕ, ◌+◌, ◌<◌, length, sym, ◌∙◌, subst, arith, get_or}
use Rattle.claim_crew.specs.Rule.{IsDone}
use Rattle.claim_crew.proofs.LogLemmas.{alone, together}
use Rattle.claim_crew.proofs.SeatLemmas.{cuts, merges}
use Rattle.claim_crew.proofs.crew.+workers.Goals as goal

pub work_all-returns-then-hands-eq1-clause-done : goal.work_all-returns-then-hands-eq1-clause-done
work_all-returns-then-hands-eq1-clause-done g t c = alone (g.W.Task.does c.args.crew.now.task.now) g.W.Task.fails _ _ c.args.hands.now c.index-hands-0.result c.work.new.hand c.if-hands-eq1.true
    (subst (λ (k : ℕ). IsDone (g.W.Task.does c.args.crew.now.task.now) g.W.Task.fails k c.work.new.seat.me (get_or c.args.hands.now 0 c.index-hands-0.result) c.work.new.hand) (sym c.if-hands-eq1.true) c.work.ensures.done)

pub work_all-split_seat-mine-requires : goal.work_all-split_seat-mine-requires
work_all-split_seat-mine-requires g t c = let s = c.requires.crew in (s.id, omega (arith, s.words), cuts g.W.Task.fails _ _ _ _ _ (length c.args.hands.now) c.requires.starts.is_fresh c.requires.workers)

pub work_all-join_seat-requires : goal.work_all-join_seat-requires
work_all-join_seat-requires g t c =
    let r = c.requires.crew in
    let s = c.split_seat-mine.ensures in
    let b = c.work_both.ensures in
    let p = c.split_at_mut-first.ensures in
    let some_part : 0 < c.work_both.new.seat.me.0.workers = omega (arith, b.others.workers_are, p.front_len, p.back_len, c.requires.workers, c.if-hands-eq1.false) in
    (b.seat_id.0 ∙ (s.0 ∙ r.id), b.mine_id ∙ (s.3 ∙ r.id), b.first.none_out, omega (arith, r.words), merges g.W.Task.fails _ _ _ _ _ _ b.others.none_claimed b.first.none_claimed some_part)

pub work_all-returns-clause-done : goal.work_all-returns-clause-done
work_all-returns-clause-done g t c =
    let b = c.work_both.ensures in
    let p = c.split_at_mut-first.ensures in
    let sum : length c.args.hands.now ≡ length c.split_at_mut-first.result.1.now + 1 = omega (arith, p.front_len, p.back_len, c.requires.workers) in
    together (g.W.Task.does c.args.crew.now.task.now) g.W.Task.fails 1 _ _ _ _ _ _ _ _ _ _ b.first b.others sum p.value c.join_seat.ensures.2
