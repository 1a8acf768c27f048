use Rattle.std.proofs.Common.{◌≡◌, ◌+◌, ◌-◌, ◌≤◌, List, length, false}
use Rattle.std.specs.Prelude.{All, None}
use Rattle.keep_store.specs.Seen.{lane_seen}
use Rattle.piece_turn.specs.Lane.{IsAsOpened}
use Rattle.piece_turn.specs.Try.{Try}
use Rattle.piece_turn.proofs.ChainLemmas.{AllTried, CallsOn}
use Rattle.piece_turn.proofs.turn.fetch_piece.Given as goal

abbrev pub invariant-loop-cause : goal.invariant-loop-cause
invariant-loop-cause g l = record {
  tried : (earlier : List Try) × (length earlier ≡ l.tries) × All CallsOn earlier
      × AllTried l.fn.piece earlier (record { lane = lane_seen l.fn.lane; wire = g.D.Dialer.wire l.fn.dialer; known = None }) (record { lane = lane_seen l.lane; wire = g.D.Dialer.wire l.dialer; known = l.known });
  few : l.tries ≤ l.retries;
  part : (lane_seen l.lane).complete ≡ false;
  opened : IsAsOpened (lane_seen l.lane);
}

abbrev pub decreases-loop-cause : goal.decreases-loop-cause
decreases-loop-cause g l = l.retries + 1 - l.tries
