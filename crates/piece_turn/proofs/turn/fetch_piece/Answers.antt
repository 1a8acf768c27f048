use Rattle.std.proofs.Common.{◌≡◌, ◌+◌, ◌<◌, true, false, refl, sym, arith, Ok, Err, None}
use Rattle.std.specs.Prelude.{IsTrue}
use Rattle.std.proofs.lemmas.Grind.{common_steps}
use Rattle.keep_store.specs.Seen.{lane_seen}
use Rattle.piece_turn.specs.Step.{At}
use Rattle.piece_turn.specs.Try.{is_retried}
use Rattle.piece_turn.proofs.TurnLemmas.{complete_turn, turned, goes_on}
use Rattle.piece_turn.proofs.turn.fetch_piece.Goals as goal
use Rattle.piece_turn.proofs.turn.fetch_piece.Goals.{then-tries-retries-via-then-tries-retries, then-tries-retries-via-else-tries-retries+then-not-is_retried}

pub returns-then-complete : goal.returns-then-complete
returns-then-complete g c =
    let lane = lane_seen {folder = g.F.Folder} c.args.lane.now in
    let value = c.complete.ensures in
    let yes = c.if-complete.true in
    let complete : lane.complete ≡ true = cc in
    complete_turn c.args.piece.now c.args.retries lane (g.D.Dialer.wire c.args.dialer.now) c.requires.opened complete

pub returns-in-Ok : goal.returns-in-Ok
returns-in-Ok g c =
    let seen = lane_seen {folder = g.F.Folder} in
    let wire = g.D.Dialer.wire in
    let inv = c.loop-cause.invariant in
    let one = c.in-Ok.ensures in
    let value = c.complete.ensures in
    let no_ = c.if-complete.false in
    let part : (seen c.args.lane.now).complete ≡ false = cc in
    let old : At = record { lane = seen c.args.lane.now; wire = wire c.args.dialer.now; known = None } in
    let mid : At = record { lane = seen c.loop-cause.lane; wire = wire c.loop-cause.dialer; known = c.loop-cause.known } in
    let new : At = record { lane = seen c.try_once-answer.new.lane; wire = wire c.try_once-answer.new.dialer; known = c.try_once-answer.new.known } in
    turned c.args.piece.now c.args.retries (c.loop-cause.tries + 1) (Ok tt) inv.tried.0 one.0 old mid new inv.tried.3 inv.tried.2 one.2 c.requires.opened part refl
    (omega (arith, inv.tried.1)) one.1 (omega (arith, inv.few)) (λ calls. absurd (cc))

pub returns-then-tries-retries : goal.returns-then-tries-retries
returns-then-tries-retries g c =
    let seen = lane_seen {folder = g.F.Folder} in
    let wire = g.D.Dialer.wire in
    let inv = c.loop-cause.invariant in
    let one = c.in-Err.ensures in
    let value = c.complete.ensures in
    let no_ = c.if-complete.false in
    let part : (seen c.args.lane.now).complete ≡ false = cc in
    let used : IsTrue (is_retried c.in-Err.cause) → c.args.retries < c.loop-cause.tries + 1 =
    elim c.then-tries-retries.branch [
      | then-tries-retries-via-then-tries-retries w ↦ λ retried. omega (arith, w.if-tries-retries.true)
      | then-tries-retries-via-else-tries-retries+then-not-is_retried w ↦ λ retried.
          let said = w.is_retried.ensures in
          let not_so = w.if-not-is_retried.true in
          absurd (first_of (cc, grind (arith, common_steps)))
    ] in
    let old : At = record { lane = seen c.args.lane.now; wire = wire c.args.dialer.now; known = None } in
    let mid : At = record { lane = seen c.loop-cause.lane; wire = wire c.loop-cause.dialer; known = c.loop-cause.known } in
    let new : At = record { lane = seen c.try_once-answer.new.lane; wire = wire c.try_once-answer.new.dialer; known = c.try_once-answer.new.known } in
    turned c.args.piece.now c.args.retries (c.loop-cause.tries + 1) (Err c.in-Err.cause) inv.tried.0 one.0 old mid new inv.tried.3 inv.tried.2 one.2 c.requires.opened part refl
    (omega (arith, inv.tried.1)) one.1 (omega (arith, inv.few)) used

pub loop-cause-preserved : goal.loop-cause-preserved
loop-cause-preserved g c =
    let seen = lane_seen {folder = g.F.Folder} in
    let wire = g.D.Dialer.wire in
    let inv = c.loop-cause.invariant in
    let one = c.in-Err.ensures in
    let said = c.is_retried.ensures in
    let so = c.if-not-is_retried.false in
    let retried : is_retried c.in-Err.cause ≡ true = first_of (cc, grind (arith, common_steps)) in
    let old : At = record { lane = seen c.args.lane.now; wire = wire c.args.dialer.now; known = None } in
    let mid : At = record { lane = seen c.loop-cause.lane; wire = wire c.loop-cause.dialer; known = c.loop-cause.known } in
    let new : At = record { lane = seen c.try_once-answer.new.lane; wire = wire c.try_once-answer.new.dialer; known = c.try_once-answer.new.known } in
    let on = goes_on c.args.piece.now c.args.retries c.loop-cause.tries c.in-Err.cause inv.tried.0 one.0 old mid new inv.tried.3 inv.tried.2 one.2 inv.part (sym inv.tried.1) one.1 retried in
    record { tried = on.0; few = omega (arith, c.if-tries-retries.false); part = on.1; opened = on.2 }
