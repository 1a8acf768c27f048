use Rattle.std.proofs.Common.{◌≤◌}
use Rattle.std.specs.Prelude.{IsSome, false}
use Rattle.http_reply.specs.Machine.{IsSound, passed}
use Rattle.link_http.specs.Wire.{Counts}
use Rattle.link_http.specs.Body.{Goes, IsWanting, work, HasRoom}
use Rattle.link_http.proofs.body.pour.Given as goal

abbrev pub invariant-turns : goal.invariant-turns
invariant-turns g l =
    let wire = g.D.Dialer.wire in
    record {
      connected : IsSome (wire l.dialer).line;
      sound : IsSound l.chunks;
      room : 256 ≤ l.window.room;
      spare : HasRoom l.share (passed l.chunks) (g.B.Taker.spare l.taker);
      wanting : IsWanting l.share;
      counts : Counts (wire l.fn.dialer) (wire l.dialer) false;
      goes : Goes g.B.Taker.took g.B.Taker.may_refuse (record { share = l.fn.share; chunks = l.fn.chunks; held = l.fn.window; wire = wire l.fn.dialer }) l.fn.taker
          (record { share = l.share; chunks = l.chunks; held = l.window; wire = wire l.dialer }) l.taker;
    }

abbrev pub decreases-turns : goal.decreases-turns
decreases-turns g l = work l.chunks l.window
